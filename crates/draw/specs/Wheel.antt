-- The wheel: claims filled from its place on, going round.
use Rattle.std.specs.Prelude.{◌≡◌, ℕ, ◌+◌, ◌-◌, ◌%◌, ◌<◌, min, if◌then◌else◌, List, [], ◌∷◌, ◌++◌, length, take, drop, ◌==◌, slice_index}
use Rattle.measures.specs.Sums.{total}

-- one claim after another is filled, while the demand lasts
abbrev pub filled : List ℕ → ℕ → List ℕ
filled [] demand = []
filled (c ∷ cs) demand = min c demand ∷ filled cs (demand - c)

-- from the account at the place on first, then those before it with what is left of the demand
abbrev pub wheel_awards : ℕ → List ℕ → ℕ → List ℕ
wheel_awards place claims demand = filled (take place claims) (demand - total (drop place claims)) ++ filled (drop place claims) demand

-- the account after the last one awarded, where the awards begin with that of the account; the place where none was
abbrev pub after_last : ℕ → ℕ → List ℕ → ℕ
after_last place account [] = place
after_last place account (a ∷ rest) = after_last (if a == 0 then place else account + 1) (account + 1) rest

-- the next place follows the last account awarded on the way round, or stays
abbrev pub next_place : ℕ → List ℕ → ℕ
next_place place awards = after_last (after_last place place (drop place awards)) 0 (take place awards) % 16

-- how far an account lies from the place, on the way round
abbrev pub turn : ℕ → ℕ → ℕ
turn place account = (account + 16 - place) % 16

-- nobody after the account on the way round from the place is awarded a lot
abbrev pub Last : ℕ → List ℕ → ℕ → Type 0
Last place awards account = (k : ℕ) → k < 16 → turn place account < turn place k → slice_index awards k ≡ 0

-- accounts are served in turn: after one that is not filled, nobody is awarded a lot
abbrev pub InTurn : ℕ → List ℕ → List ℕ → Type 0
InTurn place claims awards = (account : ℕ) → account < 16 → slice_index awards account < slice_index claims account → Last place awards account

-- the next place follows the last account awarded, or stays if none was
pub record Follows (place : ℕ) (awards : List ℕ) (next : ℕ) : Type 0 where
  pub stays : total awards ≡ 0 → next ≡ place
  pub follows : 0 < total awards → (account : ℕ) × (account < 16) × (0 < slice_index awards account) × Last place awards account × (next ≡ (account + 1) % 16)

pub record Turns (place : ℕ) (claims : List ℕ) (demand : ℕ) : Type 0 where
  pub in_turn : InTurn place claims (wheel_awards place claims demand)
  pub next : Follows place (wheel_awards place claims demand) (next_place place (wheel_awards place claims demand))

abbrev pub WheelGoesRound : Type 0
WheelGoesRound = (place : ℕ) (claims : List ℕ) (demand : ℕ) → place < 16 → length claims ≡ 16 → Turns place claims demand
