-- Rounds come to their end, and owe what every draw owes.
use Rattle.std.specs.Prelude.{◌≡◌, ℕ, zero, suc, ◌+◌, ◌<◌, ◌≤◌, min, Bool, true, false, cond, List, [], ◌∷◌, length, slice_index, refl}
use Rattle.std.proofs.Common.{ap, ◌∙◌, arith}
use Rattle.std.proofs.lemmas.List.{length-map}
use Rattle.std.proofs.lemmas.Bool.Decides.{nat_tests}
use Rattle.measures.specs.Sums.{total}
use Rattle.draw.specs.Fair.{Fair}
use Rattle.draw.specs.Rounds.{Awards, Next, Standing, Until, standing, cut, round, rounds, used_up, rounds_awards, rounds_end}
use Rattle.draw.specs.Rounds.Until.{over, goes_on}
use Rattle.draw.specs.Tables.{length-less, get_or-less, total-less}

pub cut_within : (r : ℕ) (xs : List ℕ) (k : ℕ) → slice_index (cut r xs) k ≤ slice_index xs k
cut_within r [] k = omega arith
cut_within r (x ∷ xs) zero = omega arith
cut_within r (x ∷ xs) (suc k) = cut_within r xs k

-- where there are claims, there are cut ones
cut_some : (r : ℕ) (xs : List ℕ) → 1 ≤ r → 0 < total xs → 0 < total (cut r xs)
cut_some r [] one some = omega arith
cut_some r (zero ∷ xs) one some = omega (arith, cut_some r xs one (omega arith))
cut_some r (suc x ∷ xs) one some = omega arith

-- from one standing to a later one, as many lots were taken off the claims as off the demand
pub record Went {D : Type 0} (s t : Standing D) : Type 0 where
  pub long : length t.left ≡ length s.left
  pub within : (k : ℕ) → slice_index t.left k ≤ slice_index s.left k
  pub fewer : t.rest ≤ s.rest
  pub same : total t.left + s.rest ≡ total s.left + t.rest

went_nowhere : {D : Type 0} (s : Standing D) → Went s s
went_nowhere s = record { long = refl; within = λ k. omega arith; fewer = omega arith; same = refl }

went_on : {D : Type 0} (s t u : Standing D) → Went s t → Went t u → Went s u
went_on s t u a b = record {
  long = b.long ∙ a.long;
  within = λ k. omega (arith, a.within k, b.within k);
  fewer = omega arith;
  same = omega arith;
}

module _ {D : Type 0} (awards : Awards D) (next : Next D) (r : ℕ) (one : 1 ≤ r)
    (fair : (d : D) (claims : List ℕ) (demand : ℕ) → Fair claims demand (awards d claims demand)) where
  pub rounds_ended : (n : ℕ) (s : Standing D) → used_up s.left s.rest ≡ true → rounds awards next r n s ≡ s
  rounds_ended zero s used = refl
  rounds_ended (suc n) s used = ap (λ b. cond b s (rounds awards next r n (round awards next r s))) used

  pub round_went : (s : Standing D) → Went s (round awards next r s)
  round_went s =
      let f = fair s.below (cut r s.left) s.rest in
      let given = awards s.below (cut r s.left) s.rest in
      let long : length given ≡ length s.left = f.each_claim ∙ length-map s.left (λ claim. min claim r) in
      let sum = total-less s.left given (omega arith) (λ k. omega (arith, f.within k, cut_within r s.left k)) in
      record {
        long = length-less s.left given;
        within = λ k. omega (arith, get_or-less s.left given k);
        fewer = omega arith;
        same = omega (arith, f.whole);
      }

  -- a round takes a lot at least
  pub round_takes : (s : Standing D) → used_up s.left s.rest ≡ false → (round awards next r s).rest < s.rest
  round_takes s going =
      let f = fair s.below (cut r s.left) s.rest in
      let rest : 0 < s.rest = grind (arith, nat_tests) in
      let some : 0 < total s.left = grind (arith, nat_tests) in
      let cuts = cut_some r s.left one some in
      omega (arith, f.whole)

  until_on : (n : ℕ) (s : Standing D) → s.rest ≤ suc n → ((t : Standing D) → t.rest ≤ n → Until awards next r t (rounds awards next r n t)) → (b : Bool) → used_up s.left s.rest ≡ b → Until awards next r s (cond b s (rounds awards next r n (round awards next r s)))
  until_on n s h rec true e = over e
  until_on n s h rec false e = goes_on e (rec (round awards next r s) (omega (arith, round_takes s e)))

  pub rounds_until : (n : ℕ) (s : Standing D) → s.rest ≤ n → Until awards next r s (rounds awards next r n s)
  rounds_until zero s h = over (grind (arith, nat_tests))
  rounds_until (suc n) s h = until_on n s h (rounds_until n) (used_up s.left s.rest) refl

  until_went : {s t : Standing D} → Until awards next r s t → Went s t
  until_went {s} (over e) = went_nowhere s
  until_went {s} {t} (goes_on e rest) = went_on s (round awards next r s) t (round_went s) (until_went rest)

  until_used : {s t : Standing D} → Until awards next r s t → used_up t.left t.rest ≡ true
  until_used (over e) = e
  until_used (goes_on e rest) = until_used rest

  pub rounds_fair : (d : D) (claims : List ℕ) (demand : ℕ) → Fair claims demand (rounds_awards awards next r d claims demand)
  rounds_fair d claims demand =
      let s = standing d claims demand in
      let t = rounds_end awards next r d claims demand in
      let all = rounds_until demand s (omega arith) in
      let w = until_went all in
      let sum = total-less claims t.left (omega arith) w.within in
      let used = until_used all in
      record {
        each_claim = length-less claims t.left;
        within = λ k. omega (arith, get_or-less claims t.left k);
        whole = grind (arith, nat_tests);
      }
