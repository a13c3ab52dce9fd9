-- Sums over the entries of a table, as the table changes.
use Rattle.std.proofs.Common.{◌≡◌, ℕ, zero, suc, ◌+◌, ◌*◌, ◌<◌, ◌≤◌, List, [], ◌∷◌, ◌++◌, length, get_or, take, set, sum, sym, refl, ap, suc-le-suc, le_of_suc-le-suc, arith}
use Rattle.std.proofs.lemmas.List.{take_more}
use Rattle.std.proofs.lemmas.List.Recursion.{is_sum_by}
use Rattle.measures.specs.Sums.{total}

pub total-append : (xs ys : List ℕ) → total (xs ++ ys) ≡ total xs + total ys
total-append [] ys = omega arith
total-append (x ∷ xs) ys = omega (arith, total-append xs ys)

-- one entry more at the end of the front
pub total_more : (xs : List ℕ) (i : ℕ) → i < length xs → total (take (i + 1) xs) ≡ total (take i xs) + get_or xs i 0
total_more xs i h = omega (arith, ap total (take_more xs i 0 h), total-append (take i xs) (get_or xs i 0 ∷ []))

-- one entry changed
pub total-set : (xs : List ℕ) (i y : ℕ) → i < length xs → total (set xs i y) + get_or xs i 0 ≡ total xs + y
total-set [] i y h = absurd (omega arith)
total-set (x ∷ xs) zero y h = omega arith
total-set (x ∷ xs) (suc i) y h = omega (arith, total-set xs i y (le_of_suc-le-suc h))

pub entry_within : (xs : List ℕ) (i : ℕ) → get_or xs i 0 ≤ total xs
entry_within [] i = omega arith
entry_within (x ∷ xs) zero = omega arith
entry_within (x ∷ xs) (suc i) = omega (arith, entry_within xs i)

-- past the end there is nothing
pub entry_stands : (xs : List ℕ) (i : ℕ) → 0 < get_or xs i 0 → i < length xs
entry_stands [] i h = absurd (omega arith)
entry_stands (x ∷ xs) zero h = omega arith
entry_stands (x ∷ xs) (suc i) h = suc-le-suc (entry_stands xs i h)

-- each entry is at most m
pub total_within : (m : ℕ) (xs : List ℕ) → ((k : ℕ) → get_or xs k 0 ≤ m) → total xs ≤ length xs * m
total_within m [] each = omega arith
total_within m (x ∷ xs) each = omega (arith, each 0, total_within m xs (λ k. each (suc k)))

-- the library's sum is this one
pub sum_is_total : (xs : List ℕ) → sum xs ≡ total xs
sum_is_total xs = sym (is_sum_by total (λ x. x) refl (λ _ _. refl) xs)
