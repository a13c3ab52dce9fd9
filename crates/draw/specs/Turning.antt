-- The wheel owes what every draw owes.
use Rattle.std.specs.Prelude.{◌≡◌, ℕ, zero, suc, ◌-◌, ◌≤◌, min, List, [], ◌∷◌, ◌++◌, length, take, drop, slice_index, refl}
use Rattle.std.proofs.Common.{ap, subst, arith}
use Rattle.std.proofs.lemmas.List.{length-append, take-append-drop}
use Rattle.measures.specs.Sums.{total}
use Rattle.measures.proofs.Sums.{total-append}
use Rattle.draw.specs.Fair.{Fair}
use Rattle.draw.specs.Wheel.{filled, wheel_awards}

pub length-filled : (cs : List ℕ) (demand : ℕ) → length (filled cs demand) ≡ length cs
length-filled [] demand = refl
length-filled (c ∷ cs) demand = ap suc (length-filled cs (demand - c))

filled_within : (cs : List ℕ) (demand k : ℕ) → slice_index (filled cs demand) k ≤ slice_index cs k
filled_within [] demand k = omega arith
filled_within (c ∷ cs) demand zero = omega arith
filled_within (c ∷ cs) demand (suc k) = filled_within cs (demand - c) k

total-filled : (cs : List ℕ) (demand : ℕ) → total (filled cs demand) ≡ min demand (total cs)
total-filled [] demand = omega arith
total-filled (c ∷ cs) demand = omega (arith, total-filled cs (demand - c))

within-append : (xs ys zs us : List ℕ) → length xs ≡ length zs → ((k : ℕ) → slice_index xs k ≤ slice_index zs k) → ((k : ℕ) → slice_index ys k ≤ slice_index us k) → (k : ℕ) → slice_index (xs ++ ys) k ≤ slice_index (zs ++ us) k
within-append [] ys [] us h a b k = b k
within-append [] ys (z ∷ zs) us h a b k = absurd (omega arith)
within-append (x ∷ xs) ys [] us h a b k = absurd (omega arith)
within-append (x ∷ xs) ys (z ∷ zs) us h a b zero = a 0
within-append (x ∷ xs) ys (z ∷ zs) us h a b (suc k) = within-append xs ys zs us (omega arith) (λ j. a (suc j)) b k

pub wheel_fair : (place : ℕ) (claims : List ℕ) (demand : ℕ) → Fair claims demand (wheel_awards place claims demand)
wheel_fair place claims demand =
    let before = take place claims in
    let on = drop place claims in
    let left = demand - total on in
    subst (λ cs. Fair cs demand (wheel_awards place claims demand)) (take-append-drop place claims) (record {
      each_claim = omega (arith, length-append (filled before left) (filled on demand), length-append before on, length-filled before left, length-filled on demand);
      within = within-append _ _ _ _ (length-filled before left) (filled_within before left) (filled_within on demand);
      whole = omega (arith, total-append (filled before left) (filled on demand), total-append before on, total-filled before left, total-filled on demand);
    })
