-- The wheel serves accounts in turn, and its place follows the last one awarded.
use Rattle.std.proofs.Common.{◌≡◌, ℕ, zero, suc, ◌+◌, ◌-◌, ◌<◌, ◌≤◌, ◌⊎◌, List, [], ◌∷◌, length, get_or, take, drop, sym, refl, ap, ◌∙◌, inl, inr, ⊎_elim, arith}
use Rattle.std.proofs.lemmas.List.{get_or_append_left, get_or-append_right, get_or-drop, get_or-take, length-drop, length-take, take-append-drop}
use Rattle.std.proofs.lemmas.Bool.{cases_lt}
use Rattle.measures.specs.Sums.{total}
use Rattle.measures.proofs.Sums.{entry_stands, entry_within, total-append}
use Rattle.draw.specs.Wheel.{Follows, InTurn, WheelGoesRound, after_last, filled, next_place, wheel_awards}
use Rattle.draw.proofs.AfterLast.{after_none, after_some}
use Rattle.draw.specs.Turning.{length-filled, wheel_fair}

filled_none : (cs : List ℕ) (demand k : ℕ) → demand ≡ 0 → get_or (filled cs demand) k 0 ≡ 0
filled_none [] demand k e = refl
filled_none (c ∷ cs) demand zero e = omega arith
filled_none (c ∷ cs) demand (suc k) e = filled_none cs (demand - c) k (omega arith)

-- what is not filled has used the demand up
filled_short : (cs : List ℕ) (demand j : ℕ) → get_or (filled cs demand) j 0 < get_or cs j 0 → demand ≤ total cs
filled_short [] demand j h = absurd (omega arith)
filled_short (c ∷ cs) demand zero h = omega arith
filled_short (c ∷ cs) demand (suc j) h = omega (arith, filled_short cs (demand - c) j h)

filled_order : (cs : List ℕ) (demand j k : ℕ) → j < k → get_or (filled cs demand) j 0 < get_or cs j 0 → get_or (filled cs demand) k 0 ≡ 0
filled_order [] demand j k l h = refl
filled_order (c ∷ cs) demand j zero l h = absurd (omega arith)
filled_order (c ∷ cs) demand zero (suc k) l h = filled_none cs (demand - c) k (omega arith)
filled_order (c ∷ cs) demand (suc j) (suc k) l h = filled_order cs (demand - c) j k (omega arith) h

-- an entry of a list that is cut at a place
module _ (xs : List ℕ) (place k : ℕ) where
  below : k < place → get_or (take place xs) k 0 ≡ get_or xs k 0
  below h = get_or-take place xs k 0 h

  above : place ≤ k → get_or (drop place xs) (k - place) 0 ≡ get_or xs k 0
  above h =
      let e : place + (k - place) ≡ k = omega arith in
      get_or-drop place xs (k - place) 0 ∙ ap (λ n. get_or xs n 0) e

module _ (place : ℕ) (claims : List ℕ) (demand : ℕ) (inside : place < 16) (long : length claims ≡ 16) where
  abbrev left : ℕ
  left = demand - total (drop place claims)

  abbrev awards : List ℕ
  awards = wheel_awards place claims demand

  before_long : length (filled (take place claims) left) ≡ place
  before_long = omega (arith, length-filled (take place claims) left, length-take place claims)

  award_before : (k : ℕ) → k < place → get_or awards k 0 ≡ get_or (filled (take place claims) left) k 0
  award_before k h = get_or_append_left (filled (take place claims) left) (filled (drop place claims) demand) 0 k (omega (arith, before_long))

  award_on : (k : ℕ) → place ≤ k → get_or awards k 0 ≡ get_or (filled (drop place claims) demand) (k - place) 0
  award_on k h = get_or-append_right (filled (take place claims) left) (filled (drop place claims) demand) place k 0 before_long h

  in_turn : InTurn place claims awards
  in_turn j j-in short k k-in later = ⊎_elim j_before j_on (cases_lt j place)
    where
      j_before : j < place → get_or awards k 0 ≡ 0
      j_before b =
          let k-before : k < place = omega arith in
          award_before k k-before ∙ filled_order (take place claims) left j k (omega arith) (omega (arith, award_before j b, below claims place j b))

      j_on : place ≤ j → get_or awards k 0 ≡ 0
      j_on o =
          let unfilled : get_or (filled (drop place claims) demand) (j - place) 0 < get_or (drop place claims) (j - place) 0 = omega (arith, award_on j o, above claims place j o) in
          ⊎_elim
          (λ b. award_before k b ∙ filled_none (take place claims) left k (omega (arith, filled_short (drop place claims) demand (j - place) unfilled)))
          (λ p. award_on k p ∙ filled_order (drop place claims) demand (j - place) (k - place) (omega arith) unfilled)
          (cases_lt k place)

none_within : (xs : List ℕ) → total xs ≡ 0 → (k : ℕ) → get_or xs k 0 ≡ 0
none_within xs h k = omega (arith, entry_within xs k)

-- the last entry of a list that is not nought
pub record Latest (xs : List ℕ) : Type 0 where
  pub index : ℕ
  pub some : 0 < get_or xs index 0
  pub last : (k : ℕ) → index < k → get_or xs k 0 ≡ 0

latest : (xs : List ℕ) → (total xs ≡ 0) ⊎ Latest xs
latest [] = inl refl
latest (x ∷ xs) =
    elim (latest xs) [
      | inl none ↦ ⊎_elim
          (λ some. inr (record { index = 0; some = some; last = alone none }))
          (λ x-none. inl (omega arith))
          (cases_lt 0 x)
      | inr l ↦ inr (record { index = suc l.index; some = l.some; last = later l })
    ]
  where
    alone : total xs ≡ 0 → (k : ℕ) → 0 < k → get_or (x ∷ xs) k 0 ≡ 0
    alone none zero h = absurd (omega arith)
    alone none (suc k) h = none_within xs none k

    later : (l : Latest xs) (k : ℕ) → suc l.index < k → get_or (x ∷ xs) k 0 ≡ 0
    later l zero h = absurd (omega arith)
    later l (suc k) h = l.last k (omega arith)

module _ (place : ℕ) (awards : List ℕ) (inside : place < 16) (long : length awards ≡ 16) where
  abbrev front : List ℕ
  front = take place awards

  abbrev back : List ℕ
  back = drop place awards

  -- an account before the place was awarded: the last of these was the last
  by_before : Latest front → Follows place awards (next_place place awards)
  by_before l =
      let k-in : l.index < place = omega (arith, entry_stands front l.index l.some, length-take place awards) in
      let some : 0 < get_or awards l.index 0 = omega (arith, l.some, below awards place l.index k-in) in
      let after = after_some (after_last place place back) 0 front l.index l.some (λ k h _. l.last k h) in
      record {
        stays = λ none. absurd (omega (arith, entry_within awards l.index));
        follows = λ _. (l.index, omega arith, some, λ k h later. sym (below awards place k (omega arith)) ∙ l.last k (omega arith), omega arith);
      }

  module _ (none_before : total front ≡ 0) where
    before : after_last (after_last place place back) 0 front ≡ after_last place place back
    before = after_none (after_last place place back) 0 front (λ k _. none_within front none_before k)

    -- only accounts from the place on were awarded
    by_on : Latest back → Follows place awards (next_place place awards)
    by_on l =
        let k-in : place + l.index < 16 = omega (arith, entry_stands back l.index l.some, length-drop place awards) in
        let some : 0 < get_or awards (place + l.index) 0 = omega (arith, l.some, get_or-drop place awards l.index 0) in
        let after = after_some place place back l.index l.some (λ k h _. l.last k h) in
        record {
          stays = λ none. absurd (omega (arith, entry_within awards (place + l.index)));
          follows = λ _. (
            place + l.index,
            k-in,
            some,
            λ k h later. ⊎_elim
                (λ b. sym (below awards place k b) ∙ none_within front none_before k)
                (λ p. sym (above awards place k p) ∙ l.last (k - place) (omega arith))
                (cases_lt k place),
            omega (arith, before),
          );
        }

    by_none : total back ≡ 0 → Follows place awards (next_place place awards)
    by_none none_on = record {
      stays = λ _. omega (arith, before, after_none place place back (λ k _. none_within back none_on k));
      follows = λ some. absurd (omega (arith, ap total (take-append-drop place awards), total-append front back));
    }

  next_follows : Follows place awards (next_place place awards)
  next_follows = ⊎_elim (λ none. ⊎_elim (by_none none) (by_on none) (latest back)) by_before (latest front)

pub wheel_goes_round : WheelGoesRound
wheel_goes_round place claims demand inside long = record {
  in_turn = in_turn place claims demand inside long;
  next = next_follows place (wheel_awards place claims demand) inside ((wheel_fair place claims demand).each_claim ∙ long);
}
