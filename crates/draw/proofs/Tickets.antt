-- Each ticket is one account's; and what the lottery's functions cite.
use Rattle.std.proofs.Common.{◌≡◌, ℕ, zero, suc, ◌+◌, ◌-◌, ◌<◌, List, [], ◌∷◌, length, take, nat_lt, sym, refl, ap, ◌∙◌, inl, inr, arith}
use Rattle.std.proofs.lemmas.List.{take_all}
use Rattle.std.proofs.lemmas.Bool.{cases_lt, cond-true, cond-false, lt-ltb, le-ltb}
use Rattle.std.specs.Prelude.{slice_index}
use Rattle.measures.specs.Sums.{total}
use Rattle.measures.proofs.Sums.{entry_stands, entry_within, total_more, total-set}
use Rattle.draw.specs.Drawn.{of_one}
use Rattle.draw.specs.Lottery.{TicketOf, TicketsSharedOut, falls_on}

of_no_other : (left : List ℕ) (account t : ℕ) → TicketOf left account t → falls_on left t ≡ account
of_no_other [] zero t h = absurd (omega (arith, h.below))
of_no_other [] (suc account) t h = absurd (omega (arith, h.below))
of_no_other (lots ∷ rest) zero t h = cond-true (nat_lt t lots) _ _ (lt-ltb t lots (omega (arith, h.below)))
of_no_other (lots ∷ rest) (suc account) t h =
    cond-false (nat_lt t lots) _ _ (le-ltb t lots (omega (arith, h.from)))
    ∙ ap suc (of_no_other rest account (t - lots) (record { from = omega (arith, h.from); below = omega (arith, h.from, h.below) }))

pub tickets_shared_out : TicketsSharedOut
tickets_shared_out left = record { of_one = of_one left; of_no_other = of_no_other left }

-- an account is in the list where there are lots from it on
pub front_inside : (xs : List ℕ) (k : ℕ) → total (take k xs) < total xs → k < length xs
front_inside xs k h = elim (cases_lt k (length xs)) [ inl l ↦ l | inr m ↦ absurd (omega (arith, ap total (take_all k xs m))) ]

-- a ticket less those of the accounts before is below the lots of the account that it falls on
pub found : (left : List ℕ) (account rest t : ℕ) → total (take account left) + rest ≡ t → rest < slice_index left account → account ≡ falls_on left t
found left account rest t h below = sym (of_no_other left account t (record { from = omega arith; below = omega arith }))

pub found_at : (left : List ℕ) (account rest : ℕ) → rest < slice_index left account → falls_on left (total (take account left) + rest) ≡ account
found_at left account rest below = sym (found left account rest (total (take account left) + rest) refl below)

pub ruleset passing = (total_more, front_inside, found_at)

pub ruleset taking = (entry_stands, entry_within, total-set)
