-- How a line of the console is taken apart.
use Rattle.std.specs.Prelude.{◌≡◌, ℕ, ◌+◌, ◌-◌, ◌*◌, ◌^◌, ◌<◌, ◌≤◌, Bool, true, if◌then◌else◌, List, [], ◌∷◌, ◌++◌, map, length, codes, MatchResult, Result, String, string_bytes, ◌≢◌, nat_le, nat_lt}
use Rattle.std.specs.Str.{all_ascii_digits}
use Rattle.language.specs.declared.token.Token.{Token}
use Rattle.language.specs.declared.token.Token.TheVariants.{Number, TooLarge, Name, Known, Unknown}
use Rattle.language.specs.declared.word.Verb.{Verb}
use Rattle.language.specs.declared.word.Verb.TheVariants.{Expiry, Lot, Draw, Award}
use Rattle.language.specs.declared.word.Word.{Word}
use Rattle.language.specs.declared.word.Word.TheVariants.{Shares, Bonds, Call, Put, Wheel, ProRata, Lottery, Rounds}

-- r is what is written so, and an error where nothing is
abbrev pub Parses : {X Y E : Type 0} → (X → Y) → Y → Result X E → Type 0
Parses {X} written y r = MatchResult r (λ x. y ≡ written x) (λ _. (x : X) → y ≢ written x)

-- the new string is the old one, and the text after it
abbrev pub Appends : {A : Type 0} → String A → String A → List ℕ → Type 0
Appends old new text = string_bytes new ≡ string_bytes old ++ text

-- bytes up to the space part words
abbrev pub blank : ℕ → Bool
blank b = nat_le b 32

-- a word that has come to its end, if it has begun
abbrev pub ended : List ℕ → List (List ℕ)
ended [] = []
ended (b ∷ bs) = (b ∷ bs) ∷ []

-- the words of w and then the bytes, where w is the part of a word that was read before them
abbrev pub split : List ℕ → List ℕ → List (List ℕ)
split w [] = ended w
split w (b ∷ bs) = if blank b then ended w ++ split [] bs else split (w ++ (b ∷ [])) bs

abbrev pub words : List ℕ → List (List ℕ)
words bs = split [] bs

-- the words that name a command
abbrev pub named : Verb → List ℕ
named Expiry = codes "EXPIRY"
named Lot = codes "LOT"
named Draw = codes "DRAW"
named Award = codes "AWARD"

-- how the command is written, for people
abbrev pub usage : Verb → List ℕ
usage Expiry = codes "usage: EXPIRY SHARES|BONDS year month holiday .."
usage Lot = codes "usage: LOT 2017|1996 CALL|PUT strike basis spot percentage lot"
usage Draw = codes "usage: DRAW [ROUNDS r] WHEEL place|PRORATA|LOTTERY x"
usage Award = codes "usage: AWARD demand claim .. (at most 16 claims)"

-- the words that stand among its figures
abbrev pub spelled : Word → List ℕ
spelled Shares = codes "SHARES"
spelled Bonds = codes "BONDS"
spelled Call = codes "CALL"
spelled Put = codes "PUT"
spelled Wheel = codes "WHEEL"
spelled ProRata = codes "PRORATA"
spelled Lottery = codes "LOTTERY"
spelled Rounds = codes "ROUNDS"

-- a decimal number: digits, and at least one; leading noughts are allowed
abbrev pub Numeral : List ℕ → Type 0
Numeral bs = (0 < length bs) × (all_ascii_digits bs ≡ true)

-- the number that n, and then the digits after it, come to
abbrev pub number_on : ℕ → List ℕ → ℕ
number_on n [] = n
number_on n (d ∷ ds) = number_on (10 * n + (d - 48)) ds

-- what a word of a command stands for
abbrev pub Means : List ℕ → Token → Type 0
Means bs (Number n) = Numeral bs × (number_on 0 bs ≡ n)
Means bs TooLarge = Numeral bs × (2 ^ 64 ≤ number_on 0 bs)
Means bs (Name v) = bs ≡ named v
Means bs (Known w) = bs ≡ spelled w
Means bs Unknown = (Numeral bs → ⊥) × ((v : Verb) → bs ≢ named v) × ((w : Word) → bs ≢ spelled w)

-- each word has its token
abbrev pub Meant : List (List ℕ) → List Token → Type 0
Meant [] [] = Unit {0}
Meant [] (t ∷ ts) = ⊥
Meant (w ∷ ws) [] = ⊥
Meant (w ∷ ws) (t ∷ ts) = Means w t × Meant ws ts

-- a byte of an echo: what is not printable ASCII is a question mark
abbrev pub printed : ℕ → ℕ
printed b = if nat_lt b 127 then b else 63

-- the words of a command, joined by single spaces: those after the first, and all of them
abbrev pub echoed_on : List (List ℕ) → List ℕ
echoed_on [] = []
echoed_on (w ∷ ws) = 32 ∷ map printed w ++ echoed_on ws

abbrev pub echoed : List (List ℕ) → List ℕ
echoed [] = []
echoed (w ∷ ws) = map printed w ++ echoed_on ws
