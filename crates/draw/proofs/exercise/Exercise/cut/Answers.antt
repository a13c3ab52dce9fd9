use Rattle.std.proofs.Common.{◌≡◌, min, get_or, ap, arith, rules}
use Rattle.draw.specs.Held.{cut_within}
use Rattle.draw.specs.Rounds.{cut}
use Rattle.measures.proofs.Arrays.{made_map}
use Rattle.draw.proofs.exercise.Exercise.cut.Goals as goal

pub invariant_of-result-clause-read : goal.invariant_of-result-clause-read
invariant_of-result-clause-read c =
    let claims = c.args.self.claims in
    let e : c.from_fn.result ≡ cut c.args.r claims = made_map _ (λ claim. min claim c.args.r) _ 0 claims _ 16 (λ k y q call. search rules) (search rules) c.from_fn.ensures.items in
    record { each = λ k. omega (arith, ap (λ xs. get_or xs k 0) e, cut_within c.args.r claims k, c.args.self.read.each k) }

pub returns-clause-claims : goal.returns-clause-claims
returns-clause-claims c = made_map _ (λ claim. min claim c.args.r) _ 0 c.args.self.claims _ 16 (λ k y q call. search rules) (search rules) c.from_fn.ensures.items
