-- What the console does with a command.
use Rattle.std.specs.Prelude.{◌≡◌, ℕ, ◌-◌, ◌^◌, min, Bool, true, false, ◌⊎◌, List, [], ◌∷◌, ◌++◌, map, length, replicate, Some, None, Ok, Err, vec_items, codes, Option, Result, ◌==◌, ◌≢◌, nat_le, nat_lt, slice_index, String}
use Rattle.measures.specs.declared.refusal.Refusal.{Refusal}
use Rattle.calendar.specs.Expiry.{Tells, ShareDate, BondDate}
use Rattle.tariff.specs.Amounts.{amount_of_choice}
use Rattle.tariff.specs.declared.lot.Lot.{Lot as LotFigures}
use Rattle.draw.specs.Choice.{choice_awards, choice_next, lottery_at, pro_rata_draw, rounds_over, wheel_at}
use Rattle.draw.specs.Fair.{all_read, lots_read}
use Rattle.draw.specs.declared.choice.Choice.{Choice}
use Rattle.draw.specs.declared.choice.Choice.TheVariants as choice
use Rattle.draw.specs.declared.choice.Plain.{Plain}
use Rattle.desk.specs.Answers.{answer_text, fault_of}
use Rattle.language.specs.Commands.{written}
use Rattle.language.specs.Text.{Appends, Meant, echoed, words}
use Rattle.desk.specs.declared.answer.Answer.{Answer}
use Rattle.desk.specs.declared.answer.Answer.TheVariants.{Done, Value, Awards, Refused, Error}
use Rattle.desk.specs.declared.answer.Fault.TheVariants.{UnknownCommand, Usage, LineTooLong}
use Rattle.desk.specs.declared.state.Desk.{Desk}
use Rattle.language.specs.declared.command.Command.{Command}
use Rattle.language.specs.declared.command.Command.TheVariants.{Expiry, Lot, Draw, Award}
use Rattle.language.specs.declared.args.Market.{Market}
use Rattle.language.specs.declared.args.Market.TheVariants.{Shares, Bonds}
use Rattle.language.specs.declared.draws.Drawing.{Drawing}
use Rattle.language.specs.declared.draws.Drawing.TheVariants.{Wheel, ProRata, Lottery}
use Rattle.language.specs.declared.questions.LotArgs.{LotArgs}
use Rattle.language.specs.declared.token.Token.{Token}
use Rattle.language.specs.declared.token.Token.TheVariants.{Number, TooLarge, Name, Known, Unknown}
use Rattle.language.specs.declared.word.Verb.TheVariants as verb

-- a number too large for a figure is read as the largest one, which lies outside every measure
abbrev pub figure_of : ℕ → ℕ
figure_of n = min n (2 ^ 32 - 1)

-- the answer is the value, or the refusal, of a result
abbrev pub Says : Result ℕ Refusal → Answer → Type 0
Says (Ok n) a = a ≡ Value n
Says (Err why) a = a ≡ Refused why

-- the answer to the question for an expiry date
abbrev pub Expires : Market → ℕ → ℕ → List ℕ → Answer → Type 0
Expires Shares y m hs a = (r : Result ℕ Refusal) × Tells y m hs (ShareDate y m hs) r × Says r a
Expires Bonds y m hs a = (r : Result ℕ Refusal) × Tells y m hs (BondDate y m hs) r × Says r a

abbrev pub lot_of : LotArgs → LotFigures
lot_of a = record {
  class = a.class;
  strike = figure_of a.strike;
  basis = figure_of a.basis;
  spot = figure_of a.spot;
  percentage = figure_of a.percentage;
  size = figure_of a.size;
}

-- the draw that is named
abbrev pub drawing_of : Drawing → Plain
drawing_of (Wheel place) = wheel_at place
drawing_of ProRata = pro_rata_draw
drawing_of (Lottery x) = lottery_at x

abbrev pub draw_of : Option ℕ → Plain → Choice
draw_of None below = choice.Plain below
draw_of (Some r) below = rounds_over (figure_of r) below

-- the claims that are given, and noughts for the accounts after them
abbrev pub claims_of : List ℕ → List ℕ
claims_of ns = map figure_of ns ++ replicate (16 - length ns) 0

-- the current draw is consulted, and goes on from where it is; more than 16 claims are not put to it
abbrev pub Awarded : Bool → Desk → List ℕ → ℕ → Answer → Desk → Type 0
Awarded true b claims demand a b' = (a ≡ Awards (choice_awards b.draw (all_read claims) (lots_read demand))) × (b' ≡ record { draw = choice_next b.draw (all_read claims) (lots_read demand) })
Awarded false b claims demand a b' = (a ≡ Error (Usage verb.Award)) × (b' ≡ b)

-- the answer that is laid down for a command, and what the desk keeps after it
abbrev pub Performs : Command → Desk → Answer → Desk → Type 0
Performs (Expiry c) b a b' = Expires c.market (figure_of c.year) (figure_of c.month) (map figure_of (vec_items c.holidays)) a × (b' ≡ b)
Performs (Lot c) b a b' = (a ≡ Value (amount_of_choice c.tariff (lot_of c))) × (b' ≡ b)
Performs (Draw c) b a b' = (a ≡ Done) × (b' ≡ record { draw = draw_of c.rounds (drawing_of c.drawing) })
Performs (Award c) b a b' = Awarded (nat_le (length (vec_items c.claims)) 16) b (claims_of (vec_items c.claims)) (figure_of c.demand) a b'

-- the answer to the words of a line: of the command that they write, or the reason why they write none
abbrev pub Answers : List Token → Desk → Answer → Desk → Type 0
Answers [] b a b' = ⊥
Answers (Number n ∷ args) b a b' = (a ≡ Error UnknownCommand) × (b' ≡ b)
Answers (TooLarge ∷ args) b a b' = (a ≡ Error UnknownCommand) × (b' ≡ b)
Answers (Known w ∷ args) b a b' = (a ≡ Error UnknownCommand) × (b' ≡ b)
Answers (Unknown ∷ args) b a b' = (a ≡ Error UnknownCommand) × (b' ≡ b)
Answers (Name v ∷ args) b a b' =
    ((c : Command) × ((Name v ∷ args) ≡ written c) × Performs c b a b')
    ⊎ (((c : Command) → (Name v ∷ args) ≢ written c) × (a ≡ Error (fault_of v args)) × (b' ≡ b))

-- a text is written, of which P holds
abbrev pub Writes : {A : Type 0} → String A → String A → (List ℕ → Type 0) → Type 0
Writes old new P = (text : List ℕ) × Appends old new text × P text

-- what stands after the echo of the command
abbrev pub after_echo : Answer → List ℕ
after_echo a = codes ": " ++ answer_text a ++ (10 ∷ [])

-- blank lines and remarks are passed over
abbrev pub passed_over : List (List ℕ) → Bool
passed_over [] = true
passed_over (w ∷ ws) = slice_index w 0 == 35

-- the most bytes of a line that is taken apart
abbrev pub longest_line : ℕ
longest_line = 65_536

abbrev pub too_long : List ℕ → Bool
too_long line = nat_lt longest_line (length line)

-- the answer to a line, after its echo
abbrev pub Answered : Bool → List ℕ → Desk → Answer → Desk → List ℕ → Type 0
Answered true line b a b' text = (a ≡ Error LineTooLong) × (b' ≡ b) × (text ≡ codes ".." ++ after_echo a)
Answered false line b a b' text = ((ts : List Token) × Meant (words line) ts × Answers ts b a b') × (text ≡ echoed (words line) ++ after_echo a)

-- what is written for a line, and what the desk keeps after it
abbrev pub Replies : List ℕ → Desk → Option Answer → Desk → List ℕ → Type 0
Replies line b None b' text = (passed_over (words line) ≡ true) × (b' ≡ b) × (text ≡ [])
Replies line b (Some a) b' text = (passed_over (words line) ≡ false) × Answered (too_long line) line b a b' text
