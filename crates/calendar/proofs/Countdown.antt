-- The days of a month from a last one down to the first, and which of them a search finds that goes down them.
use Rattle.std.proofs.Common.{◌≡◌, ℕ, zero, suc, ◌-◌, ◌<◌, ◌≤◌, Bool, true, false, List, [], ◌∷◌, Option, Some, MatchOption, slice_get, refl, ◌∙◌, arith}
use Rattle.std.specs.List.{filter, find}
use Rattle.std.specs.Range.{range_inclusive_left, range_inclusive_len}
use Rattle.std.specs.declared.iter.Rev.{Rev}
use Rattle.std.specs.declared.ops.RangeInclusive.{RangeInclusive}
use Rattle.std.specs.Iterator.Adapters.{rev_source, rev_steps}
use Rattle.std.proofs.iter.runs.Sources.{nat_range_inclusive_steps_back}
use Rattle.std.proofs.lemmas.Iterator.{YieldsList}
use Rattle.std.proofs.lemmas.Iterator.Splits.{YieldsList-from_shown_while}
use Rattle.calendar.specs.Days.{count}
use Rattle.calendar.proofs.Counts.{count_more}

abbrev pub down : ℕ → List ℕ
down zero = []
down (suc n) = suc n ∷ down n

-- the chain `(1..=n).rev()`, its steps, and how many days it has left
abbrev Chain : Type 0
Chain = Rev (RangeInclusive ℕ)

abbrev steps : Chain → Option ℕ → Chain → Type 0
steps = rev_steps nat_range_inclusive_steps_back

abbrev left : Chain → ℕ
left s = range_inclusive_left (λ a b. b - a) (rev_source s)

last_left : (a b : ℕ) (spent : Bool)
    → a ≡ 1 → 0 < range_inclusive_len (λ a b. b - a) a b spent → b ≡ range_inclusive_len (λ a b. b - a) a b spent
last_left a b true one some = absurd (omega arith)
last_left a b false one some = omega arith

one_step : (s : Chain) (x : ℕ) (t : Chain)
    → (rev_source s).start ≡ 1 → steps s (Some x) t → ((rev_source t).start ≡ 1) × (down (left s) ≡ x ∷ down (left t))
one_step s x t one h =
    let last = last_left (rev_source s).start (rev_source s).end (rev_source s).exhausted one (omega arith) in
    let x_is : x ≡ suc (left t) = omega arith in
    let more : left s ≡ suc (left t) = omega arith in
    (h.0 ∙ one, rw (more, x_is) refl)

pub YieldsList-from_down : (s : Chain) (n : ℕ)
    → (rev_source s).start ≡ 1 → (rev_source s).end ≡ n → (rev_source s).exhausted ≡ false
    → YieldsList steps (λ x. x) s (down n)
YieldsList-from_down s n one end fresh =
    let all : left s ≡ n = rw (one, end, fresh) (omega arith) in
    rw all at
    (YieldsList-from_shown_while steps (λ x. x) (λ s. down (left s)) (λ s. (rev_source s).start ≡ 1)
    (λ s t one h. rw h.1.0 refl) one_step s one)

module _ (p : ℕ → Bool) where
  -- d is the first day from z down that passes
  abbrev pub FirstDown : ℕ → ℕ → Type 0
  FirstDown z d = (1 ≤ d) × (d ≤ z) × (p d ≡ true) × ((e : ℕ) → d < e → e ≤ z → p e ≡ true → ⊥)

  pub find_down : (z : ℕ) → MatchOption (find p (down z)) ((e : ℕ) → 1 ≤ e → e ≤ z → p e ≡ true → ⊥) (FirstDown z)
  find_down zero = λ e low high. absurd (omega arith)
  find_down (suc z) = let more = find_down z in grind (arith, more)

  -- d passes, and so do j days from z down before it
  abbrev pub NthDown : ℕ → ℕ → ℕ → Type 0
  NthDown z j d = (1 ≤ d) × (d ≤ z) × (p d ≡ true) × (count p d (z - d) ≡ j)

  pub nth_down : (z j : ℕ) → MatchOption (slice_get (filter p (down z)) j) (count p 0 z ≤ j) (NthDown z j)
  nth_down zero j = omega arith
  nth_down (suc z) zero = let more = nth_down z zero in let e = count_more p z in grind (arith, more, e)
  nth_down (suc z) (suc j) =
      let kept = nth_down z (suc j) in
      let more = nth_down z j in
      let e = count_more p z in
      grind (arith, kept, more, e)
