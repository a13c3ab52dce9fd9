-- Worked lines of the tariffs: a strike of 100 pesos, lots of 100 units, a list percentage of 15 per cent.
use Rattle.std.specs.Prelude.{◌≡◌, ℕ}
use Rattle.tariff.specs.Amounts.{amount_2017, amount_1996}
use Rattle.tariff.specs.declared.lot.Class.{Class}
use Rattle.tariff.specs.declared.lot.Class.TheVariants.{Call, Put}
use Rattle.tariff.specs.declared.lot.Lot.{Lot}

abbrev lot_of : Class → ℕ → ℕ → Lot
lot_of c b s = record { class = c; strike = 100_000; basis = b; spot = s; percentage = 1_500; size = 100 }

pub record Worked : Type 0 where
  -- 2017: at five per cent the percentage is added three times, a mil beyond it twice
  pub call_at_edge : amount_2017 (lot_of Call 6_000 105_000) ≡ 870_000
  pub put_at_edge : amount_2017 (lot_of Put 6_000 95_000) ≡ 870_000
  pub call_beyond : amount_2017 (lot_of Call 6_000 105_001) ≡ 780_000
  pub put_beyond : amount_2017 (lot_of Put 6_000 94_999) ≡ 780_000
  -- 1996: twice the basis, or a tenth of the strike, whatever class and spot are
  pub twice_basis : (class : Class) (spot : ℕ) → amount_1996 (lot_of class 6_000 spot) ≡ 1_200_000
  pub tenth_of_strike : (class : Class) (spot : ℕ) → amount_1996 (lot_of class 4_000 spot) ≡ 1_000_000
