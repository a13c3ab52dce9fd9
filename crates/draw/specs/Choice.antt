-- The draws that can be chosen, each by its own rule.
use Rattle.std.specs.Prelude.{ℕ, ◌%◌, List}
use Rattle.std.proofs.Math.Nat.{le-max_right}
use Rattle.std.proofs.Common.{mod-lt, zero-lt-suc}
use Rattle.measures.specs.Ranges.{lots_measure, read_as}
use Rattle.draw.specs.Lottery.{lottery_awards, lottery_next}
use Rattle.draw.specs.ProRata.{pro_rata}
use Rattle.draw.specs.Rounds.{rounds_awards, rounds_next}
use Rattle.draw.specs.Wheel.{next_place, wheel_awards}
use Rattle.draw.specs.declared.choice.Choice.{Choice}
use Rattle.draw.specs.declared.choice.Choice.TheVariants.{Plain as InOne, InRounds}
use Rattle.draw.specs.declared.choice.Plain.{Plain}
use Rattle.draw.specs.declared.choice.Plain.TheVariants.{Wheel, ProRata, Lottery}

-- a place is read modulo 16
abbrev pub wheel_at : ℕ → Plain
wheel_at place = Wheel (record { place = place % 16; inside = mod-lt place (zero-lt-suc 15) })

abbrev pub pro_rata_draw : Plain
pro_rata_draw = ProRata (record {})

abbrev pub lottery_at : ℕ → Plain
lottery_at x = Lottery (record { x = x })

-- r is read as the nearest of 1 to 10,000
abbrev pub rounds_over : ℕ → Plain → Choice
rounds_over r below = InRounds (record { most = read_as lots_measure r; below = below; some = le-max_right _ _ })

abbrev pub plain_awards : Plain → List ℕ → ℕ → List ℕ
plain_awards (Wheel w) = wheel_awards w.place
plain_awards (ProRata _) = pro_rata
plain_awards (Lottery l) = lottery_awards l.x

abbrev pub plain_next : Plain → List ℕ → ℕ → Plain
plain_next (Wheel w) claims demand = Wheel (record { place = next_place w.place (wheel_awards w.place claims demand); inside = mod-lt _ (zero-lt-suc 15) })
plain_next (ProRata p) claims demand = ProRata p
plain_next (Lottery l) claims demand = lottery_at (lottery_next l.x claims demand)

abbrev pub choice_awards : Choice → List ℕ → ℕ → List ℕ
choice_awards (InOne d) = plain_awards d
choice_awards (InRounds s) = rounds_awards plain_awards plain_next s.most s.below

abbrev pub choice_next : Choice → List ℕ → ℕ → Choice
choice_next (InOne d) claims demand = InOne (plain_next d claims demand)
choice_next (InRounds s) claims demand = InRounds (record { most = s.most; below = rounds_next plain_awards plain_next s.most s.below claims demand; some = s.some })
