-- What the parts of an amount come to at most, for a lot in its measures.
use Rattle.std.specs.Prelude.{◌≡◌, ◌*◌, ◌≤◌}
use Rattle.std.proofs.Common.{arith, rules}
use Rattle.std.proofs.lemmas.Nat.{mul-le}
use Rattle.std.proofs.lemmas.Bool.Decides.{nat_tests}
use Rattle.tariff.specs.Amounts.{Measured, read, times}
use Rattle.tariff.specs.declared.lot.Lot.{Lot}

module _ (lot : Lot) (m : Measured lot) where
  pub times_bounded : times lot ≤ 3
  times_bounded = grind (arith, nat_tests)

  pub value_bounded : lot.basis * lot.size ≤ 100_000_000 * 1_000
  value_bounded = grind (arith, mul-le)

  pub share_bounded : times lot * lot.percentage ≤ 3 * 10_000
  share_bounded = mul-le _ _ 3 10_000 times_bounded m.percentage_within

  pub strike_bounded : lot.strike * lot.size ≤ 100_000_000 * 1_000
  strike_bounded = grind (arith, mul-le)

  pub double_bounded : 2 * lot.basis * lot.size ≤ 200_000_000 * 1_000
  double_bounded = grind (arith, mul-le)

-- a lot that is read is read as it is
pub read_again : (lot : Lot) → read (read lot) ≡ read lot
read_again lot = search rules
