-- Pro rata spreads in proportion; and the first largest remainder.
use Rattle.std.specs.Prelude.{◌≡◌, ℕ, ◌+◌, ◌<◌, ◌≤◌, List, [], ◌∷◌, zero, suc, length, nat_lt, slice_index, slice_set}
use Rattle.std.proofs.Common.{sym, subst, ⊎_elim, arith}
use Rattle.std.proofs.lemmas.Bool.{cases_order, cond-true, lt-ltb}
use Rattle.measures.specs.Sums.{total}
use Rattle.measures.proofs.Sums.{entry_stands}
use Rattle.draw.specs.InProportion.{Shared, end, first, largest}
use Rattle.draw.specs.ProRata.{Proportional, ProRataSpreads, first_largest}

-- a place that is the largest, and the first such, is the first largest
pub is_first_largest : (xs : List ℕ) (n : ℕ) → ((k : ℕ) → k < length xs → slice_index xs k ≤ slice_index xs n) → ((k : ℕ) → k < n → slice_index xs k < slice_index xs n) → n ≡ first_largest xs
is_first_largest xs n all-below before =
    let f = first_largest xs in
    ⊎_elim (λ e. e)
    (⊎_elim
    (λ h. let larger = first xs n h in absurd (omega (arith, all-below f (entry_stands xs f (omega arith)))))
    (λ h. absurd (omega (arith, before f h, largest xs n))))
    (cases_order n f)

pub one_higher : (xs : List ℕ) (i : ℕ) → total (slice_set xs i (slice_index xs i + 1)) ≤ total xs + 1
one_higher [] i = omega arith
one_higher (x ∷ xs) zero = omega arith
one_higher (x ∷ xs) (suc i) = omega (arith, one_higher xs i)

proportional_given : (claims : List ℕ) (demand : ℕ) (left awards : List ℕ) → Shared claims demand 0 left awards → Proportional claims demand awards
proportional_given claims demand left awards g =
    record {
      least = λ k. ⊎_elim (λ p. omega arith) (λ q. omega arith) (g.each k);
      most = λ k. ⊎_elim (λ p. omega arith) (λ q. omega arith) (g.each k);
      by_remainder = g.in_turn;
    }

pub pro_rata_proportional : ProRataSpreads
pro_rata_proportional claims demand short =
    let last = end claims demand short in
    let below = cond-true (nat_lt demand (total claims)) _ claims (lt-ltb demand (total claims) short) in
    subst (Proportional claims demand) (sym below) (proportional_given claims demand last.0 _ last.1)
