use Rattle.std.proofs.Common.{◌≡◌, length, arith, rules}
use Rattle.measures.proofs.Sums.{total_within}
use Rattle.draw.proofs.exercise.Exercise.all.Goals as goal

pub sum-requires : goal.sum-requires
sum-requires c =
    let claims = c.args.self.claims in
    let long : length claims ≡ 16 = search rules in
    omega (arith, total_within 10_000 claims c.args.self.read.each)
