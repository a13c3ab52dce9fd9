use Rattle.std.proofs.Common.{◌≡◌, ◌*◌, ◌/◌, ◌%◌, ◌≤◌, length, map, get_or, ap, ◌∙◌, arith, rules}
use Rattle.std.proofs.lemmas.List.{get_or-map}
use Rattle.measures.specs.Sums.{total}
use Rattle.measures.proofs.Arrays.{callable_places, made_map}
use Rattle.draw.proofs.pro_rata.remainders_of.Goals as goal

pub from_fn-requires : goal.from_fn-requires
from_fn-requires c =
    let claims = c.args.exercise.now.claims in
    let parted = c.args.parted.now in
    let long : length claims ≡ 16 = search rules in (
      omega arith,
      callable_places _ _ _ (λ x q call. search rules) _
          (λ k l.
          let small : get_or claims k 0 ≤ 10_000 = c.args.exercise.now.read.each k in
          let part : get_or parted k 0 ≡ c.args.lots * get_or claims k 0 / c.all-all.result =
          ap (λ xs. get_or xs k 0) c.requires.parted ∙ get_or-map (λ claim. c.args.lots * claim / total claims) claims k 0 0 (omega arith) ∙ ap (λ t. c.args.lots * get_or claims k 0 / t) (omega arith) in
          search rules),
    )

pub returns : goal.returns
returns c =
    let claims = c.args.exercise.now.claims in
    made_map _ (λ claim. c.args.lots * claim % c.all-all.result) _ 0 claims _ 16 (λ k y q call. search rules) (search rules) c.from_fn.ensures.items
    ∙ ap (λ all. map (λ claim. c.args.lots * claim % all) claims) c.all-all.ensures
