-- A lot that is read lies in its measures, and a lot that lies in its measures requires no more than `most`.
use Rattle.std.specs.Prelude.{◌≡◌, ℕ, ◌+◌, ◌*◌, ◌≤◌}
use Rattle.std.proofs.Common.{arith, rules}
use Rattle.std.proofs.lemmas.Nat.{mul-le}
use Rattle.std.proofs.lemmas.Bool.Decides.{nat_tests}
use Rattle.tariff.specs.Amounts.{Measured, most, read, times, rule_2017, rule_1996}
use Rattle.tariff.specs.declared.lot.Lot.{Lot}

pub read_measured : (lot : Lot) → Measured (read lot)
read_measured lot = search rules

-- a lot that is read once more has the amount that it had
pub read_once : (rule : Lot → ℕ) (lot : Lot) → rule (read lot) ≡ rule (read (read lot))
read_once rule lot = search rules

module _ (lot : Lot) (m : Measured lot) where
  -- what the rule of 2017 divides
  pub product_bounded : lot.basis * lot.size * (10_000 + times lot * lot.percentage) ≤ 100_000_000 * 1_000 * 40_000
  product_bounded = grind (arith, nat_tests, mul-le)

  pub bounded_2017 : rule_2017 lot ≤ most
  bounded_2017 = omega (arith, product_bounded)

  pub bounded_1996 : rule_1996 lot ≤ most
  bounded_1996 = grind (arith, mul-le)
