-- Whichever draw is chosen owes what every draw owes.
use Rattle.std.specs.Prelude.{ℕ, List}
use Rattle.draw.specs.Choice.{choice_awards, plain_awards, plain_next}
use Rattle.draw.specs.Fair.{Fair}
use Rattle.draw.specs.declared.choice.Choice.{Choice}
use Rattle.draw.specs.declared.choice.Choice.TheVariants.{Plain as InOne, InRounds}
use Rattle.draw.specs.declared.choice.Plain.{Plain}
use Rattle.draw.specs.declared.choice.Plain.TheVariants.{Wheel, ProRata, Lottery}
use Rattle.draw.specs.Drawn.{lottery_fair}
use Rattle.draw.specs.Held.{rounds_fair}
use Rattle.draw.specs.InProportion.{pro_rata_fair}
use Rattle.draw.specs.Turning.{wheel_fair}

pub plain_fair : (d : Plain) (claims : List ℕ) (demand : ℕ) → Fair claims demand (plain_awards d claims demand)
plain_fair (Wheel w) = wheel_fair w.place
plain_fair (ProRata _) = pro_rata_fair
plain_fair (Lottery l) = lottery_fair l.x

pub choice_fair : (c : Choice) (claims : List ℕ) (demand : ℕ) → Fair claims demand (choice_awards c claims demand)
choice_fair (InOne d) = plain_fair d
choice_fair (InRounds s) = rounds_fair plain_awards plain_next s.most s.some plain_fair s.below
