-- The weekdays of a month follow from that of its first day.
use Rattle.std.proofs.Common.{◌≡◌, ℕ, ◌+◌, ◌-◌, ◌%◌, ◌<◌, ◌≤◌, Bool, eqb, sym, ◌∙◌, refl, ap, arith}
use mathlib.Core.Path.{fun_ext}
use Rattle.std.proofs.lemmas.Bool.{eq-eqb}
use Rattle.calendar.specs.Days.{weekday, friday, count}
use Rattle.calendar.specs.Expiry.{The, ThirdFriday}
use Rattle.calendar.proofs.Computed.{equal_below}
use Rattle.calendar.proofs.Counts.{same_before}
use Rattle.calendar.proofs.Lengths.{month_length_most}

pub weekday_from : (y m d : ℕ) → weekday y m d ≡ (weekday y m 1 + (d - 1)) % 7
weekday_from y m d = omega arith

pub weekday_below : (y m d : ℕ) → weekday y m d < 7
weekday_below y m d = omega arith

-- the Fridays of a month whose first day has the weekday f
abbrev fridays : ℕ → ℕ → Bool
fridays f d = eqb ((f + (d - 1)) % 7) 4

abbrev third : ℕ → ℕ
third f = 15 + (11 - f) % 7

third_counts : (f : ℕ) → f < 7 → count (fridays f) 0 (third f - 1) ≡ 2
third_counts = equal_below (λ f. count (fridays f) 0 (third f - 1)) (λ _. 2) 7 refl

friday_from : (y m d : ℕ) → friday y m d ≡ fridays (weekday y m 1) d
friday_from y m d = ap (λ w. eqb w 4) (weekday_from y m d)

third_friday_once : (y m d e : ℕ) → ThirdFriday y m d → ThirdFriday y m e → e ≡ d
third_friday_once y m d e a b = same_before (friday y m) d e a.inside.0 b.inside.0 a.is_friday b.is_friday (a.third ∙ sym b.third)

-- the Friday of the days 15 to 21 is the third
pub third_friday_is : (y m d : ℕ)
    → m < 13 → 15 ≤ d → d ≤ 21 → (weekday y m 1 + (d - 1)) % 7 ≡ 4 → The (ThirdFriday y m) d
third_friday_is y m d h low high friday-is =
    let long = month_length_most y m h in
    let same : friday y m ≡ fridays (weekday y m 1) = fun_ext (friday_from y m) in
    let day : d ≡ third (weekday y m 1) = omega arith in
    let it : ThirdFriday y m d =
    record {
      inside = omega arith;
      is_friday = eq-eqb (weekday y m d) 4 (omega arith);
      third = rw (same, day) (third_counts (weekday y m 1) (weekday_below y m 1));
    }
    in
    record { is = it; only = λ e. third_friday_once y m d e it }
