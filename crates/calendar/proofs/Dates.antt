-- A search from the last day down finds the expiry date of shares, and that of bonds; a month has at most one of each.
use Rattle.std.proofs.Common.{◌≡◌, ℕ, ◌-◌, ◌<◌, ◌≤◌, List, slice_get, Some, None, Option, sym, ◌∙◌, arith}
use native.Mathlib.Nat.{sub-zero}
use Rattle.std.specs.List.{filter, find}
use Rattle.calendar.specs.Days.{count, month_length}
use Rattle.calendar.specs.Expiry.{BondDate, Finds, LatestBusiness, No, ShareDate, The, ThirdFriday, business}
use Rattle.calendar.proofs.Countdown.{down, find_down, nth_down}
use Rattle.calendar.proofs.Counts.{fewer_after, same_after}

module _ (y m : ℕ) (hs : List ℕ) where
  bond_once : (d e : ℕ) → BondDate y m hs d → BondDate y m hs e → e ≡ d
  bond_once d e a b =
      same_after (business y m hs) d e (month_length y m) a.inside.1 b.inside.1 a.open_day b.open_day
      (a.third_last ∙ sym b.third_last)

  pub the_bond_date : (d : ℕ) → BondDate y m hs d → The (BondDate y m hs) d
  the_bond_date d date = record { is = date; only = λ e. bond_once d e date }

  -- where the whole month has at most two business days
  pub no_bond_date : (day : ℕ) → day < 1 → count (business y m hs) day (month_length y m - day) ≤ 2 → No (BondDate y m hs)
  no_bond_date day start few =
      record {
        none =
            λ d date.
            let fewer = fewer_after (business y m hs) day d (month_length y m) in
            grind (arith, few, date, fewer);
      }

  -- the third business day from the last day down
  pub bond_found : (o : Option ℕ)
      → o ≡ slice_get (filter (business y m hs) (down (month_length y m))) 2 → Finds (BondDate y m hs) o
  bond_found None e =
      no_bond_date 0 (omega arith) (rw sub-zero (rw (sym e) at (nth_down (business y m hs) (month_length y m) 2)))
  bond_found (Some d) e =
      let it = rw (sym e) at (nth_down (business y m hs) (month_length y m) 2) in
      the_bond_date d (record { inside = (it.0, it.1); open_day = it.2; third_last = it.3 })

  -- the first business day from the limit down
  pub latest_found : (limit : ℕ) → limit ≤ month_length y m → (o : Option ℕ)
      → o ≡ find (business y m hs) (down limit) → Finds (LatestBusiness y m hs limit) o
  latest_found limit h None e =
      let none = rw (sym e) at (find_down (business y m hs) limit) in
      record { none = λ d day. none d day.inside.0 day.not_after day.open_day }
  latest_found limit h (Some d) e =
      let it = rw (sym e) at (find_down (business y m hs) limit) in
      record {
        is = record { inside = omega arith; open_day = it.2; not_after = it.1; latest = it.3 };
        only = λ e day. let it_first = it.3 e in let day_first = day.latest d in grind (arith, it_first, day_first);
      }

  -- the third Friday is one day, so the latest business day up to it is the date
  module _ (limit : ℕ) (third : The (ThirdFriday y m) limit) where
    latest_from : (d : ℕ) → ShareDate y m hs d → LatestBusiness y m hs limit d
    latest_from d date = rw (third.only date.limit date.third) at date.day

    pub share_found : (o : Option ℕ) → Finds (LatestBusiness y m hs limit) o → Finds (ShareDate y m hs) o
    share_found None nothing = record { none = λ d date. nothing.none d (latest_from d date) }
    share_found (Some d) day =
        record {
          is = record { limit = limit; third = third.is; day = day.is };
          only = λ e date. day.only e (latest_from e date);
        }
