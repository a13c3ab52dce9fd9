-- What one uncovered lot requires, in mils, under the tariffs of 2017 and 1996.
use Rattle.std.specs.Prelude.{ℕ, ◌+◌, ◌*◌, ◌/◌, ◌%◌, ◌≤◌, min, max, Bool, if◌then◌else◌, nat_lt}
use Rattle.measures.specs.Ranges.{read_as, price_measure, theoretical_measure, percentage_measure, lot_size_measure}
use Rattle.tariff.specs.declared.delivered.Delivered.{Delivered}
use Rattle.tariff.specs.declared.delivered.Delivered.TheVariants.{Of2017, Of1996}
use Rattle.tariff.specs.declared.lot.Class.{Class}
use Rattle.tariff.specs.declared.lot.Class.TheVariants.{Call, Put}
use Rattle.tariff.specs.declared.lot.Lot.{Lot}

-- no lot requires more
abbrev pub most : ℕ
most = 1_000_000_000_000

-- each figure outside its measure is read as the nearest inside it
abbrev pub read : Lot → Lot
read lot = record {
  class = lot.class;
  strike = read_as price_measure lot.strike;
  basis = read_as theoretical_measure lot.basis;
  spot = read_as price_measure lot.spot;
  percentage = read_as percentage_measure lot.percentage;
  size = read_as lot_size_measure lot.size;
}

-- no figure lies above its measure
pub record Measured (lot : Lot) : Type 0 where
  pub strike_within : lot.strike ≤ price_measure.most
  pub basis_within : lot.basis ≤ theoretical_measure.most
  pub percentage_within : lot.percentage ≤ percentage_measure.most
  pub size_within : lot.size ≤ lot_size_measure.most

-- the quotient, and one more where there is a remainder
abbrev pub quotient_up : ℕ → ℕ → ℕ
quotient_up a b = a / b + min 1 (a % b)

-- the spot lies more than five per cent above the strike of a call, or below that of a put
abbrev pub deep : Class → ℕ → ℕ → Bool
deep Call strike spot = nat_lt (strike * 105) (spot * 100)
deep Put strike spot = nat_lt (spot * 100) (strike * 95)

-- how many times the list percentage is added to the basis
abbrev pub times : Lot → ℕ
times lot = if deep lot.class lot.strike lot.spot then 2 else 3

-- 2017: the basis, and so many times the list percentage of it, for each unit of the lot
abbrev pub rule_2017 : Lot → ℕ
rule_2017 lot = quotient_up (lot.basis * lot.size * (10_000 + times lot * lot.percentage)) 10_000

-- 1996: twice the basis, or a tenth of the strike, the greater, for each unit of the lot
abbrev pub rule_1996 : Lot → ℕ
rule_1996 lot = max (2 * lot.basis * lot.size) (quotient_up (lot.strike * lot.size) 10)

abbrev pub amount_2017 : Lot → ℕ
amount_2017 lot = rule_2017 (read lot)

abbrev pub amount_1996 : Lot → ℕ
amount_1996 lot = rule_1996 (read lot)

-- the rule of the tariff that is chosen
abbrev pub rule_of_choice : Delivered → Lot → ℕ
rule_of_choice (Of2017 _) lot = rule_2017 lot
rule_of_choice (Of1996 _) lot = rule_1996 lot

abbrev pub amount_of_choice : Delivered → Lot → ℕ
amount_of_choice (Of2017 _) lot = amount_2017 lot
amount_of_choice (Of1996 _) lot = amount_1996 lot
