-- How the arguments of each command are written.
use Rattle.std.specs.Prelude.{◌≡◌, ℕ, List, [], ◌∷◌, map, Some, None, vec_items, Option, MatchOption, ◌≢◌}
use Rattle.tariff.specs.declared.lot.Class.{Class}
use Rattle.tariff.specs.declared.lot.Class.TheVariants.{Call, Put}
use Rattle.tariff.specs.declared.delivered.Delivered.{Delivered}
use Rattle.tariff.specs.declared.delivered.Delivered.TheVariants.{Of2017, Of1996}
use Rattle.language.specs.declared.args.Market.{Market}
use Rattle.language.specs.declared.args.Market.TheVariants.{Shares, Bonds}
use Rattle.language.specs.declared.draws.AwardArgs.{AwardArgs}
use Rattle.language.specs.declared.draws.DrawArgs.{DrawArgs}
use Rattle.language.specs.declared.draws.Drawing.{Drawing}
use Rattle.language.specs.declared.draws.Drawing.TheVariants.{Wheel, ProRata, Lottery}
use Rattle.language.specs.declared.questions.ExpiryArgs.{ExpiryArgs}
use Rattle.language.specs.declared.questions.LotArgs.{LotArgs}
use Rattle.language.specs.declared.token.Token.{Token}
use Rattle.language.specs.declared.token.Token.TheVariants.{Number, Known}
use Rattle.language.specs.declared.word.Word.TheVariants as word

abbrev pub market_word : Market → Token
market_word Shares = Known word.Shares
market_word Bonds = Known word.Bonds

abbrev pub class_word : Class → Token
class_word Call = Known word.Call
class_word Put = Known word.Put

abbrev pub year_of : Delivered → ℕ
year_of (Of2017 _) = 2017
year_of (Of1996 _) = 1996

-- EXPIRY SHARES|BONDS year month holiday ..
abbrev pub expiry_words : ExpiryArgs → List Token
expiry_words a = market_word a.market ∷ Number a.year ∷ Number a.month ∷ map Number (vec_items a.holidays)

-- LOT 2017|1996 CALL|PUT strike basis spot percentage lot
abbrev pub lot_words : LotArgs → List Token
lot_words a = Number (year_of a.tariff) ∷ class_word a.class ∷ Number a.strike ∷ Number a.basis ∷ Number a.spot ∷ Number a.percentage ∷ Number a.size ∷ []

-- WHEEL place, PRORATA, LOTTERY x
abbrev pub drawing_words : Drawing → List Token
drawing_words (Wheel place) = Known word.Wheel ∷ Number place ∷ []
drawing_words ProRata = Known word.ProRata ∷ []
drawing_words (Lottery x) = Known word.Lottery ∷ Number x ∷ []

-- ROUNDS r in front of the draw below
abbrev pub rounds_words : Option ℕ → List Token → List Token
rounds_words None ts = ts
rounds_words (Some r) ts = Known word.Rounds ∷ Number r ∷ ts

-- DRAW [ROUNDS r] WHEEL place|PRORATA|LOTTERY x
abbrev pub draw_words : DrawArgs → List Token
draw_words a = rounds_words a.rounds (drawing_words a.drawing)

-- AWARD demand claim ..
abbrev pub award_words : AwardArgs → List Token
award_words a = Number a.demand ∷ map Number (vec_items a.claims)

-- not all of the tokens are numbers
abbrev pub NotNumbers : List Token → Type 0
NotNumbers ts = (ns : List ℕ) → ts ≢ map Number ns

-- what is written so, if anything is
abbrev pub Reads : {X : Type 0} → (X → List Token) → List Token → Option X → Type 0
Reads {X} words ts o = MatchOption o ((x : X) → ts ≢ words x) (λ x. ts ≡ words x)
