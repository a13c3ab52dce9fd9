-- What every draw owes.
use Rattle.std.specs.Prelude.{◌≡◌, ℕ, ◌-◌, ◌≤◌, min, List, [], ◌∷◌, map, length, slice_index}
use Rattle.measures.specs.Sums.{total}

-- a claim or a demand above 10,000 is read as 10,000
abbrev pub lots_read : ℕ → ℕ
lots_read n = min n 10_000

abbrev pub all_read : List ℕ → List ℕ
all_read claims = map lots_read claims

-- no claim lies above 10,000
pub record Read (claims : List ℕ) : Type 0 where
  pub each : (k : ℕ) → slice_index claims k ≤ 10_000

-- no award exceeds its claim, and together they are the lesser of the demand and all claims
pub record Fair (claims : List ℕ) (demand : ℕ) (awards : List ℕ) : Type 0 where
  pub each_claim : length awards ≡ length claims
  pub within : (k : ℕ) → slice_index awards k ≤ slice_index claims k
  pub whole : total awards ≡ min demand (total claims)

-- entry by entry, the first list less the second
abbrev pub less : List ℕ → List ℕ → List ℕ
less [] ys = []
less (x ∷ xs) [] = x ∷ xs
less (x ∷ xs) (y ∷ ys) = (x - y) ∷ less xs ys
