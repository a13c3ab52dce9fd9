use Rattle.std.proofs.Common.{take}
use Rattle.desk.specs.Console.{Writes}
use Rattle.desk.specs.Run.{Hears}
use Rattle.desk.proofs.run.Console.hear.Given as goal

abbrev pub invariant-loop-b : goal.invariant-loop-b
invariant-loop-b l = Writes l.initial.out l.out (Hears l.initial.self (take l.b-index l.bytes) l.self)
