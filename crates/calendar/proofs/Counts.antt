-- A count of the days that pass a test grows by each day that passes, so two such days have different counts.
use Rattle.std.proofs.Common.{◌≡◌, ℕ, zero, suc, ◌+◌, ◌-◌, ◌<◌, ◌≤◌, Bool, true, cond, add-zero, add_assoc, add-suc, zero-add, refl, arith}
use native.Mathlib.Nat.{sub_self}
use Rattle.calendar.specs.Days.{count}

module _ (p : ℕ → Bool) where
  count_split : (a m n : ℕ) → count p a (m + n) ≡ count p a m + count p (a + m) n
  count_split a m zero = rw (add-zero m) (omega arith)
  count_split a m (suc n) =
      let more = count_split a m n in
      let e : a + suc (m + n) ≡ a + m + suc n = omega arith in
      rw (add-suc m n, ← add_assoc, e, more)

  -- the days from past a to z are those before d, the day d, and those after it
  pub count_at : (a d z : ℕ) → a < d → d ≤ z → count p a (z - a) ≡ count p a (d - 1 - a) + cond (p d) 1 0 + count p d (z - d)
  count_at a d z low high =
      let before : z - a ≡ d - 1 - a + (1 + (z - d)) = omega arith in
      let here : a + (d - 1 - a) + 1 ≡ d = omega arith in
      let s = count_split a (d - 1 - a) (1 + (z - d)) in
      let t = count_split (a + (d - 1 - a)) 1 (z - d) in
      rw (before, s, t, here) (omega arith)

  -- a count up to z that is taken one day further back
  pub count_down : (d z : ℕ) → 1 ≤ d → d ≤ z → count p (d - 1) (z - (d - 1)) ≡ cond (p d) 1 0 + count p d (z - d)
  count_down d z low high = simp (sub_self, zero-add) at (count_at (d - 1) d z (omega arith) high)

  pub count_more : (z d : ℕ) → d ≤ z → count p d (suc z - d) ≡ count p d (z - d) + cond (p (suc z)) 1 0
  count_more z d h =
      let n : suc z - d ≡ suc (z - d) = omega arith in
      let e : d + suc (z - d) ≡ suc z = omega arith in
      rw (n, e) refl

  -- of two days that pass, the later has more before it, and fewer after it up to z
  pub more_before : (d z : ℕ) → 1 ≤ d → d ≤ z → p d ≡ true → count p 0 (d - 1) < count p 0 z
  more_before d zero low high here = absurd (omega arith)
  more_before d (suc z) low high here = let more = more_before d z low in grind (arith, more)

  pub fewer_after : (d e z : ℕ) → d < e → e ≤ z → p e ≡ true → count p e (z - e) < count p d (z - d)
  fewer_after d e zero less high here = absurd (omega arith)
  fewer_after d e (suc z) less high here = let fewer = fewer_after d e z less in grind (arith, fewer, count_more z d, count_more z e)

  -- so a day that passes is told by how many stand before it, or after it
  pub same_before : (d e : ℕ) → 1 ≤ d → 1 ≤ e → p d ≡ true → p e ≡ true
      → count p 0 (d - 1) ≡ count p 0 (e - 1) → e ≡ d
  same_before d e low low' here here' same = grind (arith, more_before d (e - 1) low, more_before e (d - 1) low')

  pub same_after : (d e z : ℕ) → d ≤ z → e ≤ z → p d ≡ true → p e ≡ true
      → count p d (z - d) ≡ count p e (z - e) → e ≡ d
  same_after d e z high high' here here' same = grind (arith, fewer_after d e z, fewer_after e d z)
