-- Worked lines of the draws: three accounts claim 3, 3 and 1 lots.
use Rattle.std.specs.Prelude.{◌≡◌, ℕ, List, ◌∷◌, replicate}
use Rattle.measures.specs.Sums.{total}
use Rattle.draw.specs.Choice.{choice_awards, lottery_at, plain_awards, pro_rata_draw, rounds_over, wheel_at}
use Rattle.draw.specs.Lottery.{falls_on, stepped, ticket}

-- the lots of the first three accounts, the other thirteen having none
abbrev three : ℕ → ℕ → ℕ → List ℕ
three a b c = a ∷ b ∷ c ∷ replicate 13 0

pub record Worked : Type 0 where
  pub in_proportion : plain_awards pro_rata_draw (three 3 3 1) 5 ≡ three 2 2 1
  pub round_from_1 : plain_awards (wheel_at 1) (three 3 3 1) 5 ≡ three 1 3 1
  pub rounds_of_2 : choice_awards (rounds_over 2 (wheel_at 0)) (three 3 3 1) 6 ≡ three 3 2 1
  -- from x = 0 the first of seven tickets is number 4, one of account 1
  pub first_ticket : ticket (stepped 0) (total (three 3 3 1)) ≡ 4
  pub its_account : falls_on (three 3 3 1) 4 ≡ 1
  pub its_award : plain_awards (lottery_at 0) (three 3 3 1) 1 ≡ three 0 1 0
