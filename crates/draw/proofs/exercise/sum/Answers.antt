use Rattle.std.proofs.Common.{◌≡◌, ◌<◌, ◌∙◌, sum, arith, rules}
use Rattle.measures.proofs.Sums.{sum_is_total}
use Rattle.draw.proofs.exercise.sum.Goals as goal

pub sum-requires-clause-fits : goal.sum-requires-clause-fits
sum-requires-clause-fits c = let small : sum c.args.lots < 4294967296 = omega (arith, sum_is_total c.args.lots) in search rules

pub returns : goal.returns
returns c = let e : c.sum.result ≡ sum c.args.lots = search rules in e ∙ sum_is_total c.args.lots
