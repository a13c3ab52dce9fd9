use Rattle.std.proofs.Common.{◌≡◌, ◌*◌, ◌/◌, map, ap, ◌∙◌, arith, rules}
use Rattle.measures.specs.Sums.{total}
use Rattle.draw.specs.InProportion.{parts_within}
use Rattle.draw.specs.ProRata.{parts}
use Rattle.measures.proofs.Arrays.{made_map}
use Rattle.draw.proofs.pro_rata.parts_of.Goals as goal

pub returns : goal.returns
returns c =
    let claims = c.args.exercise.now.claims in
    let lots = c.args.lots in
    let parted : c.from_fn.result ≡ parts claims lots =
    made_map _ (λ claim. lots * claim / c.all-all.result) _ 0 claims _ 16 (λ k y q call. search rules) (search rules) c.from_fn.ensures.items
    ∙ ap (λ all. map (λ claim. lots * claim / all) claims) c.all-all.ensures
    in
    record { parted = parted; within = omega (arith, ap total parted, parts_within claims lots c.requires.some) }
