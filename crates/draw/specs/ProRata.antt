-- Pro rata: each claim's part of the demand, rounded down, and then one lot each by largest remainder.
use Rattle.std.specs.Prelude.{◌≡◌, ℕ, zero, suc, ◌+◌, ◌-◌, ◌*◌, ◌/◌, ◌%◌, ◌<◌, ◌≤◌, if◌then◌else◌, ◌⊎◌, List, [], ◌∷◌, map, nat_lt, slice_index, slice_set}
use Rattle.measures.specs.Sums.{total}

-- each claim's part of the demand, rounded down
abbrev pub parts : List ℕ → ℕ → List ℕ
parts claims demand = map (λ claim. demand * claim / total claims) claims

-- and the remainder of the division
abbrev pub remainders : List ℕ → ℕ → List ℕ
remainders claims demand = map (λ claim. demand * claim % total claims) claims

-- the place of the largest entry, of the first where several are as large
abbrev pub first_largest : List ℕ → ℕ
first_largest [] = 0
first_largest (x ∷ xs) = if nat_lt x (slice_index xs (first_largest xs)) then suc (first_largest xs) else 0

-- so many lots more, each to the largest remainder, which is then spent
abbrev pub one_each : ℕ → List ℕ → List ℕ → List ℕ
one_each zero rests awards = awards
one_each (suc lots) rests awards = one_each lots (slice_set rests (first_largest rests) 0) (slice_set awards (first_largest rests) (slice_index awards (first_largest rests) + 1))

-- a demand not below all claims awards every claim
abbrev pub pro_rata : List ℕ → ℕ → List ℕ
pro_rata claims demand = if nat_lt demand (total claims) then one_each (demand - total (parts claims demand)) (remainders claims demand) (parts claims demand) else claims

-- one entry comes before another by its size, and of two as large by its place
abbrev pub Before : List ℕ → ℕ → ℕ → Type 0
Before xs j k = (slice_index xs k < slice_index xs j) ⊎ ((slice_index xs j ≡ slice_index xs k) × (j < k))

-- in proportion: each award is the part or one lot more, and no account gets the lot more
-- while one whose remainder comes before its own does not
pub record Proportional (claims : List ℕ) (demand : ℕ) (awards : List ℕ) : Type 0 where
  pub least : (k : ℕ) → slice_index (parts claims demand) k ≤ slice_index awards k
  pub most : (k : ℕ) → slice_index awards k ≤ slice_index (parts claims demand) k + 1
  pub by_remainder : (j k : ℕ) → Before (remainders claims demand) j k → slice_index (parts claims demand) k < slice_index awards k → slice_index (parts claims demand) j < slice_index awards j

abbrev pub ProRataSpreads : Type 0
ProRataSpreads = (claims : List ℕ) (demand : ℕ) → demand < total claims → Proportional claims demand (pro_rata claims demand)
