-- The Gregorian calendar from the year 2000 on: lengths of years and months, weekdays, and how many days pass a test.
use Rattle.std.specs.Prelude.{ℕ, zero, suc, ◌+◌, ◌-◌, ◌%◌, ◌≤◌, Bool, if◌then◌else◌, not, ◌&&◌, ◌||◌, List, [], ◌∷◌, take, sum, ◌==◌, slice_index}

-- every fourth year, but of the full hundreds only every fourth
abbrev pub leap : ℕ → Bool
leap y = y % 4 == 0 && (not (y % 100 == 0) || y % 400 == 0)

abbrev pub year_length : ℕ → ℕ
year_length y = if leap y then 366 else 365

-- the lengths of the months of a year, January first
abbrev pub month_lengths : ℕ → List ℕ
month_lengths y = 31 ∷ (if leap y then 29 else 28) ∷ 31 ∷ 30 ∷ 31 ∷ 30 ∷ 31 ∷ 31 ∷ 30 ∷ 31 ∷ 30 ∷ 31 ∷ []

-- the months that the calendar is for
abbrev pub InCalendar : ℕ → ℕ → Type 0
InCalendar y m = (2000 ≤ y) × (y ≤ 2099) × (1 ≤ m) × (m ≤ 12)

abbrev pub month_length : ℕ → ℕ → ℕ
month_length y m = slice_index (month_lengths y) (m - 1)

abbrev pub InMonth : ℕ → ℕ → ℕ → Type 0
InMonth y m d = (1 ≤ d) × (d ≤ month_length y m)

-- the days of the first n years from 2000 on
abbrev pub days_of_years : ℕ → ℕ
days_of_years zero = 0
days_of_years (suc n) = days_of_years n + year_length (2000 + n)

-- the days from 1 January of the year y to the first of its month m
abbrev pub days_of_months : ℕ → ℕ → ℕ
days_of_months y m = sum (take (m - 1) (month_lengths y))

-- the days from 1 January 2000 to the day d of the month m of the year y
abbrev pub days_since : ℕ → ℕ → ℕ → ℕ
days_since y m d = days_of_years (y - 2000) + days_of_months y m + (d - 1)

-- Monday is 0, and so on to Sunday, 6: 1 January 2000 was a Saturday
abbrev pub weekday : ℕ → ℕ → ℕ → ℕ
weekday y m d = (5 + days_since y m d) % 7

abbrev pub friday : ℕ → ℕ → ℕ → Bool
friday y m d = weekday y m d == 4

-- how many of the n days that follow the day a pass the test
abbrev pub count : (ℕ → Bool) → ℕ → ℕ → ℕ
count p a zero = 0
count p a (suc n) = count p a n + (if p (a + suc n) then 1 else 0)
