-- Pro rata is fair, and in proportion.
use Rattle.std.specs.Prelude.{◌≡◌, ℕ, zero, suc, ◌+◌, ◌-◌, ◌*◌, ◌/◌, ◌%◌, ◌<◌, ◌≤◌, ◌⊎◌, List, [], ◌∷◌, map, length, ◌≢◌, nat_lt, slice_index, slice_index_or, slice_set, refl}
use Rattle.std.proofs.Common.{sym, ap, ◌∙◌, inl, inr, ⊎_elim, arith, mod-lt, mul-add, mul_comm, mul-suc, mul-le-mul_right}
use Rattle.std.proofs.Math.Nat.{div-add-mod, mul-sub, le_of_mul-le-mul_left, lt_of_mul-lt-mul_left}
use Rattle.std.proofs.lemmas.List.{get_or-set_same, get_or-set_other, length-set, length-map}
use Rattle.std.proofs.lemmas.Bool.{cases_lt, cases_eq, cond_both, ltb-true, ltb-false}
use Rattle.measures.specs.Sums.{total}
use Rattle.measures.proofs.Sums.{entry_stands, total-set, total_within}
use Rattle.draw.specs.Fair.{Fair}
use Rattle.draw.specs.ProRata.{Before, first_largest, one_each, parts, pro_rata, remainders}

-- the first largest entry is the largest
pub largest : (xs : List ℕ) (k : ℕ) → slice_index xs k ≤ slice_index xs (first_largest xs)
largest [] k = omega arith
largest (x ∷ xs) zero =
    let y = slice_index_or xs (first_largest xs) 0 in
    cond_both (nat_lt x y) (suc (first_largest xs)) 0 (λ f. x ≤ slice_index (x ∷ xs) f) (λ e. omega (arith, ltb-true x y e)) (λ e. omega arith)
largest (x ∷ xs) (suc k) =
    let y = slice_index_or xs (first_largest xs) 0 in
    let below = largest xs k in
    cond_both (nat_lt x y) (suc (first_largest xs)) 0 (λ f. slice_index xs k ≤ slice_index (x ∷ xs) f) (λ e. below) (λ e. omega (arith, ltb-false x y e))

-- and those before it are smaller
pub first : (xs : List ℕ) (k : ℕ) → k < first_largest xs → slice_index xs k < slice_index xs (first_largest xs)
first [] k h = absurd (omega arith)
first (x ∷ xs) zero h =
    let y = slice_index_or xs (first_largest xs) 0 in
    cond_both (nat_lt x y) (suc (first_largest xs)) 0 (λ f. 0 < f → x < slice_index (x ∷ xs) f) (λ e l. ltb-true x y e) (λ e l. absurd (omega arith)) h
first (x ∷ xs) (suc k) h =
    let y = slice_index_or xs (first_largest xs) 0 in
    cond_both (nat_lt x y) (suc (first_largest xs)) 0 (λ f. suc k < f → slice_index xs k < slice_index (x ∷ xs) f) (λ e l. first xs k (omega arith)) (λ e l. absurd (omega arith)) h

some_largest : (xs : List ℕ) → 0 < total xs → 0 < slice_index xs (first_largest xs)
some_largest xs h =
    ⊎_elim (λ p. p) (λ none. absurd (omega (arith, total_within 0 xs (λ k. omega (arith, largest xs k))))) (cases_lt 0 (slice_index xs (first_largest xs)))

-- what a turn leaves of the rests, and makes of the awards
abbrev pub spent : List ℕ → List ℕ
spent rests = slice_set rests (first_largest rests) 0

abbrev pub lot_more : List ℕ → List ℕ → List ℕ
lot_more rests awards = slice_set awards (first_largest rests) (slice_index awards (first_largest rests) + 1)

-- a part, t times, and its remainder come to d times the claim
share : (d t : ℕ) (xs : List ℕ) (k : ℕ) → t * slice_index (map (λ x. d * x / t) xs) k + slice_index (map (λ x. d * x % t) xs) k ≡ d * slice_index xs k
share d t [] k = omega arith
share d t (x ∷ xs) zero = div-add-mod (d * x) t
share d t (x ∷ xs) (suc k) = share d t xs k

shares : (d t : ℕ) (xs : List ℕ) → t * total (map (λ x. d * x / t) xs) + total (map (λ x. d * x % t) xs) ≡ d * total xs
shares d t [] = omega arith
shares d t (x ∷ xs) =
    omega (arith, div-add-mod (d * x) t, shares d t xs, mul-add t (d * x / t) (total (map (λ x. d * x / t) xs)), mul-add d x (total xs))

remainder_below : (d t : ℕ) (xs : List ℕ) (k : ℕ) → 0 < t → slice_index (map (λ x. d * x % t) xs) k < t
remainder_below d t [] k h = h
remainder_below d t (x ∷ xs) zero h = mod-lt (d * x) h
remainder_below d t (x ∷ xs) (suc k) h = remainder_below d t xs k h

-- a part is within its claim, and below it where something remains
room : (t d claim part rest : ℕ) → d < t → t * part + rest ≡ d * claim → (part ≤ claim) × (0 < rest → part < claim)
room t d claim part rest short e =
    let at_most : d * claim ≤ t * claim = mul-le-mul_right claim (omega arith) in
    let within : t * part ≤ t * claim = omega arith in
    (le_of_mul-le-mul_left within (omega arith), λ some. let below : t * part < t * claim = omega arith in lt_of_mul-lt-mul_left t below)

pub parts_within : (claims : List ℕ) (demand : ℕ) → 0 < total claims → total (parts claims demand) ≤ demand
parts_within claims demand some =
    let t = total claims in
    let within : t * total (parts claims demand) ≤ t * demand = omega (arith, shares demand t claims, mul_comm demand t) in
    le_of_mul-le-mul_left within some

-- an account has its part and all its remainder rests, or one lot more and nothing rests
abbrev Got : List ℕ → List ℕ → List ℕ → List ℕ → ℕ → Type 0
Got ps rs rests awards k =
    ((slice_index awards k ≡ slice_index ps k) × (slice_index rests k ≡ slice_index rs k))
    ⊎ ((slice_index awards k ≡ slice_index ps k + 1) × (slice_index rests k ≡ 0) × (0 < slice_index rs k))

-- while so many lots are left to give, over the parts and the remainders of a division by t
pub record Giving (t demand : ℕ) (ps rs : List ℕ) (lots : ℕ) (rests awards : List ℕ) : Type 0 where
  pub long_rests : length rests ≡ length ps
  pub long_awards : length awards ≡ length ps
  pub whole : total awards + lots ≡ demand
  pub enough : t * lots ≤ total rests
  pub each : (k : ℕ) → Got ps rs rests awards k
  pub in_turn : (j k : ℕ) → Before rs j k → slice_index ps k < slice_index awards k → slice_index ps j < slice_index awards j

-- one turn
module _ (t demand : ℕ) (ps rs : List ℕ) (lots : ℕ) (rests awards : List ℕ) (below : (k : ℕ) → slice_index rs k < t) (g : Giving t demand ps rs (suc lots) rests awards) where
  place_some : 0 < slice_index rests (first_largest rests)
  place_some = some_largest rests (omega (arith, below 0, mul-suc t lots))

  place_stands : first_largest rests < length rests
  place_stands = entry_stands rests (first_largest rests) place_some

  place_before : (slice_index awards (first_largest rests) ≡ slice_index ps (first_largest rests)) × (slice_index rests (first_largest rests) ≡ slice_index rs (first_largest rests))
  place_before =
      let some = place_some in ⊎_elim (λ p. p) (λ q. absurd (omega arith)) (g.each (first_largest rests))

  place_after : slice_index_or (lot_more rests awards) (first_largest rests) 0 ≡ slice_index ps (first_largest rests) + 1
  place_after =
      let f = first_largest rests in
      let before = place_before in
      let inside = place_stands in
      omega (arith, get_or-set_same awards f (slice_index awards f + 1) 0 (omega arith))

  elsewhere : (k : ℕ) → (k ≢ first_largest rests) → slice_index (lot_more rests awards) k ≡ slice_index awards k
  elsewhere k = get_or-set_other awards (first_largest rests) k (slice_index awards (first_largest rests) + 1) 0

  got_more : (k : ℕ) → Got ps rs (spent rests) (lot_more rests awards) k
  got_more k =
      let f = first_largest rests in
      let before = place_before in
      let some = place_some in
      ⊎_elim
      (λ e.
      let given-award = place_after in
      let given-rest = get_or-set_same rests f 0 0 place_stands in
      let same = ap (λ i. slice_index rs i) e in
      inr ((cc), (cc), omega arith))
      (λ ne.
      let other-award = elsewhere k ne in
      let other-rest = get_or-set_other rests f k 0 0 ne in
      ⊎_elim (λ p. inl ((cc), (cc))) (λ q. inr ((cc), (cc), q.2)) (g.each k))
      (cases_eq k f)

  -- where an account has not got the lot more, none that comes after it has
  waits : (j k : ℕ) → Before rs j k → (slice_index awards j ≡ slice_index ps j) × (slice_index rests j ≡ slice_index rs j) → slice_index ps k < slice_index (lot_more rests awards) k → ⊥
  waits j k b p more =
      let before = place_before in
      ⊎_elim
      (λ e.
      let same = ap (λ i. slice_index rs i) e in
      ⊎_elim (λ larger. omega (arith, largest rests j)) (λ as-large. omega (arith, first rests j (omega arith))) b)
      (λ ne. let other = elsewhere k ne in omega (arith, g.in_turn j k b (omega arith)))
      (cases_eq k (first_largest rests))

  in_turn_more : (j k : ℕ) → Before rs j k → slice_index ps k < slice_index (lot_more rests awards) k → slice_index ps j < slice_index (lot_more rests awards) j
  in_turn_more j k b more =
      ⊎_elim
      (λ e. let after = place_after in let got : slice_index_or (lot_more rests awards) j 0 ≡ slice_index ps j + 1 = cc in omega arith)
      (λ ne. let other = elsewhere j ne in ⊎_elim (λ p. absurd (waits j k b p more)) (λ q. omega arith) (g.each j))
      (cases_eq j (first_largest rests))

  turn : Giving t demand ps rs lots (spent rests) (lot_more rests awards)
  turn =
      let f = first_largest rests in
      let award = slice_index awards f + 1 in
      let inside = place_stands in
      let before = place_before in
      record {
        long_rests = omega (arith, length-set rests f 0);
        long_awards = omega (arith, length-set awards f award);
        whole = omega (arith, total-set awards f award (omega arith));
        enough = omega (arith, total-set rests f 0 inside, below f, mul-suc t lots);
        each = got_more;
        in_turn = in_turn_more;
      }

-- and so all turns
given : (t demand : ℕ) (ps rs : List ℕ) (lots : ℕ) (rests awards : List ℕ) → ((k : ℕ) → slice_index rs k < t) → Giving t demand ps rs lots rests awards → (left : List ℕ) × Giving t demand ps rs 0 left (one_each lots rests awards)
given t demand ps rs zero rests awards below g = (rests, g)
given t demand ps rs (suc lots) rests awards below g =
    given t demand ps rs lots (spent rests) (lot_more rests awards) below (turn t demand ps rs lots rests awards below g)

-- of these claims, so many lots being left to give
abbrev pub Shared : List ℕ → ℕ → ℕ → List ℕ → List ℕ → Type 0
Shared claims demand lots rests awards = Giving (total claims) demand (parts claims demand) (remainders claims demand) lots rests awards

module _ (claims : List ℕ) (demand : ℕ) (short : demand < total claims) where
  start : Shared claims demand (demand - total (parts claims demand)) (remainders claims demand) (parts claims demand)
  start =
      let t = total claims in
      let within = parts_within claims demand (omega arith) in
      record {
        long_rests = length-map claims (λ claim. demand * claim % t) ∙ sym (length-map claims (λ claim. demand * claim / t));
        long_awards = refl;
        whole = omega arith;
        enough = omega (arith, shares demand t claims, mul-sub t demand (total (parts claims demand)), mul_comm demand t);
        each = λ k. inl (refl, refl);
        in_turn = λ j k b more. absurd (omega arith);
      }

  pub end : (left : List ℕ) × Shared claims demand 0 left (one_each (demand - total (parts claims demand)) (remainders claims demand) (parts claims demand))
  end = given _ _ _ _ _ _ _ (λ k. remainder_below demand (total claims) claims k (omega arith)) start

  fair_given : (left awards : List ℕ) → Shared claims demand 0 left awards → Fair claims demand awards
  fair_given left awards g =
      let t = total claims in
      record {
        each_claim = g.long_awards ∙ length-map claims (λ claim. demand * claim / t);
        within =
            λ k.
            let part = slice_index_or (parts claims demand) k 0 in
            let rest = slice_index_or (remainders claims demand) k 0 in
            let here = room t demand (slice_index claims k) part rest short (share demand t claims k) in
            ⊎_elim (λ p. omega arith) (λ q. omega (arith, here.1 q.2)) (g.each k);
        whole = omega arith;
      }

pub pro_rata_fair : (claims : List ℕ) (demand : ℕ) → Fair claims demand (pro_rata claims demand)
pro_rata_fair claims demand =
    cond_both (nat_lt demand (total claims)) _ claims (Fair claims demand)
    (λ e.
    let short = ltb-true demand (total claims) e in
    let last = end claims demand short in
    fair_given claims demand short last.0 _ last.1)
    (λ e. record { each_claim = refl; within = λ k. omega arith; whole = omega (arith, ltb-false demand (total claims) e) })
