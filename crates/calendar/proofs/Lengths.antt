-- The lengths of years and months in closed form, each tested at every number that it is for.
use Rattle.std.proofs.Common.{◌≡◌, ℕ, ◌+◌, ◌-◌, ◌*◌, ◌/◌, ◌<◌, ◌≤◌, Bool, true, false, cond, ◌||◌, eqb, List, [], ◌∷◌, get_or, refl, arith}
use Rattle.std.proofs.lemmas.List.Sums.{sum_by_more, sum_by-take-le}
use Rattle.std.proofs.lemmas.Bool.Decides.{nat_tests}
use Rattle.calendar.specs.Days.{leap, month_lengths, month_length, days_of_years, days_of_months}
use Rattle.calendar.proofs.Computed.{equal_below}

pub days_of_years_is : (n : ℕ) → n < 100 → days_of_years n ≡ 365 * n + (n + 3) / 4
days_of_years_is = equal_below days_of_years (λ n. 365 * n + (n + 3) / 4) 100 refl

-- the lengths of the months of a leap year or of another
abbrev lengths : Bool → List ℕ
lengths b = 31 ∷ cond b 29 28 ∷ 31 ∷ 30 ∷ 31 ∷ 30 ∷ 31 ∷ 31 ∷ 30 ∷ 31 ∷ 30 ∷ 31 ∷ []

-- 30 days have April, June, September and November
abbrev length_of : Bool → ℕ → ℕ
length_of b m = cond (eqb m 2) (cond b 29 28) (cond (eqb m 4 || eqb m 6 || eqb m 9 || eqb m 11) 30 31)

pub month_length_is : (y m : ℕ) → m < 13 → month_length y m ≡ length_of (leap y) m
month_length_is y =
    elim (leap y) as (λ b. (m : ℕ) → m < 13 → get_or (lengths b) (m - 1) 0 ≡ length_of b m) [
      | true ↦ equal_below (λ m. get_or (lengths true) (m - 1) 0) (length_of true) 13 refl
      | false ↦ equal_below (λ m. get_or (lengths false) (m - 1) 0) (length_of false) 13 refl
    ]

pub month_length_most : (y m : ℕ) → m < 13 → (28 ≤ month_length y m) × (month_length y m ≤ 31)
month_length_most y m h = let e = month_length_is y m h in grind (arith, nat_tests, e)

pub days_of_months_more : (y m : ℕ) → 1 ≤ m → m ≤ 12 → days_of_months y (m + 1) ≡ days_of_months y m + month_length y m
days_of_months_more y m low high =
    let e : m + 1 - 1 ≡ m - 1 + 1 = omega arith in
    rw e (sum_by_more (λ x. x) (month_lengths y) (m - 1) 0 (omega arith))

pub days_of_months_most : (y m : ℕ) → days_of_months y m ≤ 366
days_of_months_most y m = let most = sum_by-take-le (λ x. x) (month_lengths y) (m - 1) in grind (arith, nat_tests, most)
