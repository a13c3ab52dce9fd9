-- The rounds that follow a round.
use Rattle.std.specs.Prelude.{◌≡◌, ℕ, zero, suc, ◌<◌, ◌≤◌, Bool, true, false, cond, List, refl}
use Rattle.std.proofs.Common.{sym, ap, ◌∙◌, arith}
use Rattle.std.proofs.lemmas.Bool.Decides.{nat_tests}
use Rattle.draw.specs.Fair.{Fair}
use Rattle.draw.specs.Rounds.{Awards, Next, Standing, round, rounds, used_up}
use Rattle.draw.specs.Held as held

module _ {D : Type 0} (awards : Awards D) (next : Next D) (r : ℕ) (one : 1 ≤ r)
    (fair : (d : D) (claims : List ℕ) (demand : ℕ) → Fair claims demand (awards d claims demand)) where
  abbrev round_takes : (s : Standing D) → used_up s.left s.rest ≡ false → (round awards next r s).rest < s.rest
  round_takes = held.round_takes awards next r one fair

  abbrev rounds_ended : (n : ℕ) (s : Standing D) → used_up s.left s.rest ≡ true → rounds awards next r n s ≡ s
  rounds_ended = held.rounds_ended awards next r one fair

  -- more rounds than that change nothing
  same_on : (n m : ℕ) (s : Standing D) → s.rest ≤ suc n → s.rest ≤ suc m → ((t : Standing D) → t.rest ≤ n → t.rest ≤ m → rounds awards next r n t ≡ rounds awards next r m t) → (b : Bool) → used_up s.left s.rest ≡ b → cond b s (rounds awards next r n (round awards next r s)) ≡ cond b s (rounds awards next r m (round awards next r s))
  same_on n m s h k rec true e = refl
  same_on n m s h k rec false e = rec (round awards next r s) (omega (arith, round_takes s e)) (omega (arith, round_takes s e))

  pub rounds_enough : (n m : ℕ) (s : Standing D) → s.rest ≤ n → s.rest ≤ m → rounds awards next r n s ≡ rounds awards next r m s
  rounds_enough zero zero s h k = refl
  rounds_enough zero (suc m) s h k = sym (rounds_ended (suc m) s (grind (arith, nat_tests)))
  rounds_enough (suc n) zero s h k = rounds_ended (suc n) s (grind (arith, nat_tests))
  rounds_enough (suc n) (suc m) s h k = same_on n m s h k (rounds_enough n m) (used_up s.left s.rest) refl

  after_round : (s : Standing D) → used_up s.left s.rest ≡ false → (m : ℕ) → s.rest ≡ m → rounds awards next r (round awards next r s).rest (round awards next r s) ≡ rounds awards next r m s
  after_round s going zero e = absurd (omega (arith, round_takes s going))
  after_round s going (suc n) e =
      rounds_enough (round awards next r s).rest n (round awards next r s) (omega arith) (omega (arith, round_takes s going))
      ∙ sym (ap (λ b. cond b s (rounds awards next r n (round awards next r s))) going)

  -- the rounds that follow a round are those that stood out before it
  pub round_on : (s t u : Standing D) (q : ℕ) → r ≡ q → used_up s.left s.rest ≡ false → t ≡ round awards next r s → rounds awards next q s.rest s ≡ u → rounds awards next q t.rest t ≡ u
  round_on s t u q e going held was =
      ap (λ p. rounds awards next p t.rest t) (sym e)
      ∙ ap (λ v. rounds awards next r v.rest v) held
      ∙ after_round s going s.rest refl
      ∙ ap (λ p. rounds awards next p s.rest s) e
      ∙ was
