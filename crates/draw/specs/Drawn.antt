-- Each lot drawn is one of an account that has lots left.
use Rattle.std.specs.Prelude.{◌≡◌, ℕ, zero, suc, ◌+◌, ◌-◌, ◌/◌, ◌^◌, ◌<◌, ◌≤◌, min, List, [], ◌∷◌, length, nat_lt, slice_index, slice_index_or, refl}
use Rattle.std.proofs.Common.{ap, ◌∙◌, inl, inr, arith}
use Rattle.std.proofs.lemmas.Nat.{mod_below}
use Rattle.std.proofs.lemmas.List.{get_or-set_same, get_or-set_other, length-set}
use Rattle.std.proofs.lemmas.Bool.{cases_eq, cond_both, ltb-true, ltb-false}
use Rattle.measures.specs.Sums.{total}
use Rattle.measures.proofs.Sums.{entry_stands, total-set}
use Rattle.draw.specs.Fair.{Fair}
use Rattle.draw.specs.Lottery.{TicketOf, falls_on, left_after, lottery_awards, one_less, drawn, stepped, ticket}
use Rattle.draw.specs.Tables.{length-less, get_or-less, total-less}

-- a ticket is one of the account that it falls on
pub of_one : (left : List ℕ) (t : ℕ) → t < total left → TicketOf left (falls_on left t) t
of_one [] t h = absurd (omega arith)
of_one (lots ∷ rest) t h =
    cond_both (nat_lt t lots) 0 (suc (falls_on rest (t - lots))) (λ account. TicketOf (lots ∷ rest) account t)
    (λ e. record { from = omega arith; below = omega (arith, ltb-true t lots e) })
    (λ e.
    let past = ltb-false t lots e in
    let there = of_one rest (t - lots) (omega arith) in
    record { from = omega (arith, there.from); below = omega (arith, there.below) })

-- what so many lots drawn leave
pub record Drawn (lots : ℕ) (left after : List ℕ) : Type 0 where
  pub each_account : length after ≡ length left
  pub within : (k : ℕ) → slice_index after k ≤ slice_index left k
  pub whole : total after + lots ≡ total left

one_drawn : (left : List ℕ) (account : ℕ) → 0 < slice_index left account → Drawn 1 left (one_less left account)
one_drawn left account h =
    let here = entry_stands left account h in
    let lots = slice_index_or left account 0 in
    record {
      each_account = length-set left account (lots - 1);
      within = λ k. elim (cases_eq k account) [
        | inl e ↦ omega (arith, ap (λ j. slice_index (one_less left account) j) e, ap (λ j. slice_index left j) e, get_or-set_same left account (lots - 1) 0 here)
        | inr ne ↦ omega (arith, get_or-set_other left account k (lots - 1) 0 ne)
      ];
      whole = omega (arith, total-set left account (lots - 1) here);
    }

-- while lots are left, a ticket falls on an account that has one
pub ticket_drawn : (left : List ℕ) (x : ℕ) → 0 < total left → Drawn 1 left (drawn left x)
ticket_drawn left x h =
    let t = ticket x (total left) in
    let there = of_one left t (mod_below (x / 2 ^ 32) (total left) h) in
    one_drawn left (falls_on left t) (omega (arith, there.from, there.below))

pub lots_drawn : (lots x : ℕ) (left : List ℕ) → lots ≤ total left → Drawn lots left (left_after lots x left)
lots_drawn zero x left h = record { each_account = refl; within = λ k. omega arith; whole = omega arith }
lots_drawn (suc lots) x left h =
    let first = ticket_drawn left (stepped x) (omega arith) in
    let rest = lots_drawn lots (stepped x) (drawn left (stepped x)) (omega (arith, first.whole)) in
    record {
      each_account = rest.each_account ∙ first.each_account;
      within = λ k. omega (arith, first.within k, rest.within k);
      whole = omega (arith, first.whole, rest.whole);
    }

pub lottery_fair : (x : ℕ) (claims : List ℕ) (demand : ℕ) → Fair claims demand (lottery_awards x claims demand)
lottery_fair x claims demand =
    let lots = min demand (total claims) in
    let left = left_after lots x claims in
    let all = lots_drawn lots x claims (omega arith) in
    record {
      each_claim = length-less claims left;
      within = λ k. omega (arith, get_or-less claims left k);
      whole = omega (arith, all.whole, total-less claims left (omega (arith, all.each_account)) all.within);
    }
