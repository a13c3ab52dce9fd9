-- Tables of claims: less another, and as a draw reads them.
use Rattle.std.specs.Prelude.{◌≡◌, ℕ, zero, suc, ◌+◌, ◌-◌, ◌≤◌, List, [], ◌∷◌, length, slice_index, refl}
use Rattle.std.proofs.Common.{ap, arith}
use Rattle.measures.specs.Sums.{total}
use Rattle.draw.specs.Fair.{Read, all_read, less, lots_read}

pub length-less : (xs ys : List ℕ) → length (less xs ys) ≡ length xs
length-less [] ys = refl
length-less (x ∷ xs) [] = refl
length-less (x ∷ xs) (y ∷ ys) = ap suc (length-less xs ys)

pub get_or-less : (xs ys : List ℕ) (k : ℕ) → slice_index (less xs ys) k ≡ slice_index xs k - slice_index ys k
get_or-less [] ys k = omega arith
get_or-less (x ∷ xs) [] k = omega arith
get_or-less (x ∷ xs) (y ∷ ys) zero = refl
get_or-less (x ∷ xs) (y ∷ ys) (suc k) = get_or-less xs ys k

pub total-less : (xs ys : List ℕ) → length ys ≤ length xs → ((k : ℕ) → slice_index ys k ≤ slice_index xs k) → total (less xs ys) + total ys ≡ total xs
total-less [] [] h each = refl
total-less [] (y ∷ ys) h each = absurd (omega arith)
total-less (x ∷ xs) [] h each = omega arith
total-less (x ∷ xs) (y ∷ ys) h each = omega (arith, each 0, total-less xs ys (omega arith) (λ k. each (suc k)))

read_each : (xs : List ℕ) (k : ℕ) → slice_index (all_read xs) k ≤ 10_000
read_each [] k = omega arith
read_each (x ∷ xs) zero = omega arith
read_each (x ∷ xs) (suc k) = read_each xs k

pub read_read : (xs : List ℕ) → Read (all_read xs)
read_read xs = record { each = read_each xs }

-- what is read already is read as it is
pub read_again : (xs : List ℕ) → ((k : ℕ) → slice_index xs k ≤ 10_000) → all_read xs ≡ xs
read_again [] each = refl
read_again (x ∷ xs) each =
    let here : lots_read x ≡ x = omega (arith, each 0) in
    let there = read_again xs (λ k. each (suc k)) in
    cc
