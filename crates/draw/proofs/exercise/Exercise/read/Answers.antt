use Rattle.std.proofs.Common.{◌≡◌, sym, subst, rules}
use Rattle.draw.specs.Fair.{Read, all_read, lots_read}
use Rattle.draw.specs.Tables.{read_read}
use Rattle.measures.proofs.Arrays.{made_map}
use Rattle.draw.proofs.exercise.Exercise.read.Goals as goal

pub invariant_of-result-clause-read : goal.invariant_of-result-clause-read
invariant_of-result-clause-read c =
    let e : c.from_fn.result ≡ all_read c.args.claims = made_map _ lots_read _ 0 c.args.claims _ 16 (λ k y q call. search rules) (search rules) c.from_fn.ensures.items in
    subst Read (sym e) (read_read c.args.claims)

pub returns-clause-claims : goal.returns-clause-claims
returns-clause-claims c = made_map _ lots_read _ 0 c.args.claims _ 16 (λ k y q call. search rules) (search rules) c.from_fn.ensures.items
