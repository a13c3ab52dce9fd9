use Rattle.std.proofs.Common.{◌≡◌, ◌+◌, take}
use Rattle.measures.specs.Sums.{total}
use Rattle.draw.proofs.lottery.Undrawn.falls_on.Given as goal

-- the tickets of the accounts passed are taken off
abbrev pub invariant-loop-account : goal.invariant-loop-account
invariant-loop-account l = total (take l.account l.self.claims) + l.ticket ≡ l.initial.ticket
