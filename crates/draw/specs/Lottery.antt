-- The lottery: each lot awarded is drawn by a ticket.
use Rattle.std.specs.Prelude.{◌≡◌, ℕ, zero, suc, ◌+◌, ◌-◌, ◌*◌, ◌/◌, ◌%◌, ◌^◌, ◌<◌, ◌≤◌, min, if◌then◌else◌, List, [], ◌∷◌, take, nat_lt, slice_index, slice_set}
use Rattle.measures.specs.Sums.{total}
use Rattle.draw.specs.Fair.{less}

-- x is stepped once for each lot
abbrev pub stepped : ℕ → ℕ
stepped x = (x * 6_364_136_223_846_793_005 + 1_442_695_040_888_963_407) % 2 ^ 64

-- its upper 32 bits, modulo the claimed lots that are not awarded yet, are a ticket, from 0
abbrev pub ticket : ℕ → ℕ → ℕ
ticket x lots = x / 2 ^ 32 % lots

-- tickets run through those lots in account order: the account that a ticket falls on
abbrev pub falls_on : List ℕ → ℕ → ℕ
falls_on [] ticket = 0
falls_on (lots ∷ rest) ticket = if nat_lt ticket lots then 0 else suc (falls_on rest (ticket - lots))

-- one lot of the account is awarded
abbrev pub one_less : List ℕ → ℕ → List ℕ
one_less left account = slice_set left account (slice_index left account - 1)

-- what is left of the lots when x, which has been stepped, has drawn one
abbrev pub drawn : List ℕ → ℕ → List ℕ
drawn left x = one_less left (falls_on left (ticket x (total left)))

-- after so many lots: x, and what is left of the claims
abbrev pub x_after : ℕ → ℕ → ℕ
x_after zero x = x
x_after (suc lots) x = x_after lots (stepped x)

abbrev pub left_after : ℕ → ℕ → List ℕ → List ℕ
left_after zero x left = left
left_after (suc lots) x left = left_after lots (stepped x) (drawn left (stepped x))

abbrev pub lottery_awards : ℕ → List ℕ → ℕ → List ℕ
lottery_awards x claims demand = less claims (left_after (min demand (total claims)) x claims)

abbrev pub lottery_next : ℕ → List ℕ → ℕ → ℕ
lottery_next x claims demand = x_after (min demand (total claims)) x

-- the tickets of an account: as many as it has lots left, after those of the accounts before it
pub record TicketOf (left : List ℕ) (account ticket : ℕ) : Type 0 where
  pub from : total (take account left) ≤ ticket
  pub below : ticket < total (take account left) + slice_index left account

-- each ticket is one account's, the account that it falls on
pub record Tickets (left : List ℕ) : Type 0 where
  pub of_one : (ticket : ℕ) → ticket < total left → TicketOf left (falls_on left ticket) ticket
  pub of_no_other : (account ticket : ℕ) → TicketOf left account ticket → falls_on left ticket ≡ account

abbrev pub TicketsSharedOut : Type 0
TicketsSharedOut = (left : List ℕ) → Tickets left
