-- A measure is the range that a kind of figure lies in, both ends in it.
use Rattle.std.specs.Prelude.{ℕ, ◌^◌, min, max, Bool, ◌&&◌, nat_le}
use Rattle.measures.specs.declared.measure.Measure.{Measure}

abbrev pub inside : Measure → ℕ → Bool
inside m figure = nat_le m.least figure && nat_le figure m.most

-- a figure outside its measure, where it is not refused, is read as the nearest one inside
abbrev pub read_as : Measure → ℕ → ℕ
read_as m figure = max (min figure m.most) m.least

abbrev range : ℕ → ℕ → Measure
range low high = record { least = low; most = high }

-- strike, spot and closing price, in mils
abbrev pub price_measure : Measure
price_measure = range 1 100_000_000

-- a theoretical price, in mils, and so a basis
abbrev pub theoretical_measure : Measure
theoretical_measure = range 0 100_000_000

-- a list percentage, in hundredths of a percent
abbrev pub percentage_measure : Measure
percentage_measure = range 0 10_000

-- the units of one lot
abbrev pub lot_size_measure : Measure
lot_size_measure = range 1 1_000

-- the lots that one call moves
abbrev pub lots_measure : Measure
lots_measure = range 1 10_000

-- a business day, by its number
abbrev pub session_measure : Measure
session_measure = range 0 20_000

-- how many there are of each, numbered from 0
abbrev pub account_count : ℕ
account_count = 16

abbrev pub underlying_count : ℕ
underlying_count = 8

abbrev pub series_count : ℕ
series_count = 32

abbrev pub strategy_count : ℕ
strategy_count = 64

abbrev pub instruction_count : ℕ
instruction_count = 32

-- what a side of a row in lots, an account's cash in mils, and its units of an underlying come to at most
abbrev pub row_ceiling : ℕ
row_ceiling = 10_000

abbrev pub cash_ceiling : ℕ
cash_ceiling = 10 ^ 15

abbrev pub units_ceiling : ℕ
units_ceiling = 10 ^ 9
