use Rattle.std.proofs.Common.{rules}
use Rattle.measures.proofs.Arrays.{made_map}
use Rattle.draw.proofs.pro_rata.awards.Goals as goal

pub returns : goal.returns
returns c = made_map _ (λ share. share.award) _ (record { award = 0; rest = 0 }) c.args.shares.now _ 16 (λ k y q call. search rules) (search rules) c.from_fn.ensures.items
