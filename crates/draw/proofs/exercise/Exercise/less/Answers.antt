use Rattle.std.proofs.Common.{get_or, ap, arith}
use Rattle.draw.specs.Tables.{get_or-less}
use Rattle.draw.proofs.exercise.Exercise.less.Goals as goal

pub invariant_of-result-clause-read : goal.invariant_of-result-clause-read
invariant_of-result-clause-read c = record { each = λ k. omega (arith, ap (λ xs. get_or xs k 0) c.less.ensures, get_or-less c.args.self.claims c.args.awards k, c.args.self.read.each k) }
