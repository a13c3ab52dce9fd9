use Rattle.std.proofs.Common.{◌≡◌, ◌+◌}
use Rattle.draw.specs.ProRata.{one_each}
use Rattle.draw.specs.Shares.{awards_of, rests_of}
use Rattle.draw.proofs.pro_rata.Parting.one_each.Given as goal

-- the lots still to be given lead to the same end
abbrev pub invariant-loop : goal.invariant-loop
invariant-loop l =
    (one_each l.self.lots (rests_of l.self.shares) (awards_of l.self.shares) ≡ one_each l.fn.self.lots (rests_of l.fn.self.shares) (awards_of l.fn.self.shares))
    × (l.self.lots + l.counter ≡ l.fn.self.lots)
