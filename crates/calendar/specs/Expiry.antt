-- The expiry dates of a month, told by what sets the day apart from every other.
use Rattle.std.specs.Prelude.{◌≡◌, ℕ, ◌-◌, ◌<◌, ◌≤◌, Bool, true, false, not, ◌&&◌, ◌||◌, List, [], ◌∷◌, length, Option, Result, All, MatchOption, MatchResult, ◌==◌, ◌≢◌, nat_lt}
use Rattle.measures.specs.declared.refusal.Refusal.{Refusal}
use Rattle.measures.specs.declared.refusal.Refusal.TheVariants.{FigureOutOfRange}
use Rattle.calendar.specs.Days.{InCalendar, InMonth, month_length, weekday, friday, count}

abbrev pub listed : ℕ → List ℕ → Bool
listed d [] = false
listed d (h ∷ hs) = h == d || listed d hs

-- Monday to Friday, and no holiday
abbrev pub business : ℕ → ℕ → List ℕ → ℕ → Bool
business y m hs d = nat_lt (weekday y m d) 5 && not (listed d hs)

-- the Friday of the month with exactly two Fridays before it
pub record ThirdFriday (y m d : ℕ) : Type 0 where
  pub inside : InMonth y m d
  pub is_friday : friday y m d ≡ true
  pub third : count (friday y m) 0 (d - 1) ≡ 2

-- the latest business day of the month that is not after a given day
pub record LatestBusiness (y m : ℕ) (hs : List ℕ) (limit d : ℕ) : Type 0 where
  pub inside : InMonth y m d
  pub open_day : business y m hs d ≡ true
  pub not_after : d ≤ limit
  pub latest : (e : ℕ) → d < e → e ≤ limit → business y m hs e ≢ true

-- shares: the latest business day of the month that is not after its third Friday
pub record ShareDate (y m : ℕ) (hs : List ℕ) (d : ℕ) : Type 0 where
  pub limit : ℕ
  pub third : ThirdFriday y m limit
  pub day : LatestBusiness y m hs limit d

-- bonds: the business day of the month with exactly two business days after it
pub record BondDate (y m : ℕ) (hs : List ℕ) (d : ℕ) : Type 0 where
  pub inside : InMonth y m d
  pub open_day : business y m hs d ≡ true
  pub third_last : count (business y m hs) d (month_length y m - d) ≡ 2

-- the one day of which Date holds
pub record The (Date : ℕ → Type 0) (d : ℕ) : Type 0 where
  pub is : Date d
  pub only : (e : ℕ) → Date e → e ≡ d

-- there is no day of which Date holds
pub record No (Date : ℕ → Type 0) : Type 0 where
  pub none : (d : ℕ) → Date d → ⊥

-- the day is told, where there is one
abbrev pub Finds : (ℕ → Type 0) → Option ℕ → Type 0
Finds Date r = MatchOption r (No Date) (The Date)

-- a year, a month and holidays that are in range
pub record InRange (y m : ℕ) (hs : List ℕ) : Type 0 where
  pub calendar : InCalendar y m
  pub few : length hs ≤ 31
  pub within : All (InMonth y m) hs

-- the answer is the one day of which Date holds; it is refused just where the input is out of range, or there is no such day
abbrev pub Tells : (y m : ℕ) (hs : List ℕ) → (ℕ → Type 0) → Result ℕ Refusal → Type 0
Tells y m hs Date r =
    MatchResult r
    (λ d. InRange y m hs × The Date d)
    (λ why. (why ≡ FigureOutOfRange) × (InRange y m hs → No Date))
