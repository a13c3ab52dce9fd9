use Rattle.std.proofs.Common.{ℕ, ◌<◌, ◌≤◌, get_or}
use Rattle.draw.specs.Shares.{rests_of}
use Rattle.draw.proofs.pro_rata.Parting.first_largest.Given as goal

abbrev pub invariant-loop-k : goal.invariant-loop-k
invariant-loop-k l =
    (l.place < 16)
    × (l.place ≤ l.k)
    × ((j : ℕ) → j < l.k → get_or (rests_of l.self.shares) j 0 ≤ get_or (rests_of l.self.shares) l.place 0)
    × ((j : ℕ) → j < l.place → get_or (rests_of l.self.shares) j 0 < get_or (rests_of l.self.shares) l.place 0)
