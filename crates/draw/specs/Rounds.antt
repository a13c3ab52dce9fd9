-- Rounds of r, over any draw.
use Rattle.std.specs.Prelude.{◌≡◌, ℕ, zero, suc, ◌-◌, min, Bool, true, false, if◌then◌else◌, ◌||◌, List, map, ◌==◌}
use Rattle.measures.specs.Sums.{total}
use Rattle.draw.specs.Fair.{less}

-- a draw by its awards, and by what it is afterwards
abbrev pub Awards : Type 0 → Type 0
Awards D = D → List ℕ → ℕ → List ℕ

abbrev pub Next : Type 0 → Type 0
Next D = D → List ℕ → ℕ → D

-- where a draw in rounds stands: the draw below, what is left of the claims, and the rest of the demand
pub record Standing (D : Type 0) : Type 0 where
  pub below : D
  pub left : List ℕ
  pub rest : ℕ

abbrev pub standing : {D : Type 0} → D → List ℕ → ℕ → Standing D
standing draw claims demand = record { below = draw; left = claims; rest = demand }

-- every remaining claim, cut to r
abbrev pub cut : ℕ → List ℕ → List ℕ
cut r left = map (λ claim. min claim r) left

-- the demand or the claims are used up
abbrev pub used_up : List ℕ → ℕ → Bool
used_up left rest = rest == 0 || total left == 0

-- one round: the cut claims and the rest of the demand are put to the draw below
abbrev pub round : {D : Type 0} → Awards D → Next D → ℕ → Standing D → Standing D
round awards next r s = record {
  below = next s.below (cut r s.left) s.rest;
  left = less s.left (awards s.below (cut r s.left) s.rest);
  rest = s.rest - total (awards s.below (cut r s.left) s.rest);
}

-- round after round until one of the two is used up; each awards a lot at least, so as many as the demand will do
abbrev pub rounds : {D : Type 0} → Awards D → Next D → ℕ → ℕ → Standing D → Standing D
rounds awards next r zero s = s
rounds awards next r (suc n) s = if used_up s.left s.rest then s else rounds awards next r n (round awards next r s)

abbrev pub rounds_end : {D : Type 0} → Awards D → Next D → ℕ → D → List ℕ → ℕ → Standing D
rounds_end awards next r draw claims demand = rounds awards next r demand (standing draw claims demand)

-- rounds are held while neither the demand nor the claims are used up, and no longer
pub data Until {D : Type 0} (awards : Awards D) (next : Next D) (r : ℕ) : Standing D → Standing D → Type 0 where
  over : {s : Standing D} → used_up s.left s.rest ≡ true → Until awards next r s s
  goes_on : {s t : Standing D} → used_up s.left s.rest ≡ false → Until awards next r (round awards next r s) t → Until awards next r s t

abbrev pub rounds_awards : {D : Type 0} → Awards D → Next D → ℕ → D → List ℕ → ℕ → List ℕ
rounds_awards awards next r draw claims demand = less claims (rounds_end awards next r draw claims demand).left

abbrev pub rounds_next : {D : Type 0} → Awards D → Next D → ℕ → D → List ℕ → ℕ → D
rounds_next awards next r draw claims demand = (rounds_end awards next r draw claims demand).below
