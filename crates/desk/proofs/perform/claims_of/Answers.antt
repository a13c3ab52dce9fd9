use Rattle.std.proofs.Common.{get_or, arith, rules}
use Rattle.measures.proofs.Arrays.{made_at}
use Rattle.desk.specs.Console.{figure_of}
use Rattle.desk.proofs.Claims.{is_claims}
use Rattle.desk.proofs.perform.claims_of.Goals as goal

pub returns : goal.returns
returns c =
    is_claims c.args.ns.now (search rules) c.from_fn.result (search rules)
    (λ k h. made_at _ (λ i. figure_of (get_or c.args.ns.now i 0)) _ (λ i y q call. search rules) c.from_fn.result 0 16 k k 0 h (omega arith) c.from_fn.ensures.items.each)
