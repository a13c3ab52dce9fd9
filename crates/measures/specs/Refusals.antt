-- The number of each refusal, and its words for people.
use Rattle.std.specs.Prelude.{ℕ, List, ◌∷◌, ◌++◌, codes, decimal}
use Rattle.measures.specs.declared.refusal.Refusal.{Refusal}
use Rattle.measures.specs.declared.refusal.Refusal.TheVariants.{NoSuchNumber, FigureOutOfRange, WrongState, WrongSideOfExpiry, Suspended, NotAdmitted, UnfitLegs, TooFewLots, CeilingPassed, UnitsShort, CashShort, InstructionStands, TooFewLines}

abbrev pub number_of : Refusal → ℕ
number_of NoSuchNumber = 1
number_of FigureOutOfRange = 2
number_of WrongState = 3
number_of WrongSideOfExpiry = 4
number_of Suspended = 5
number_of NotAdmitted = 6
number_of UnfitLegs = 7
number_of TooFewLots = 8
number_of CeilingPassed = 9
number_of UnitsShort = 10
number_of CashShort = 11
number_of InstructionStands = 12
number_of TooFewLines = 13

abbrev pub words_of : Refusal → List ℕ
words_of NoSuchNumber = codes "no such number"
words_of FigureOutOfRange = codes "figure out of range"
words_of WrongState = codes "wrong state"
words_of WrongSideOfExpiry = codes "wrong side of expiry"
words_of Suspended = codes "series suspended"
words_of NotAdmitted = codes "not admitted"
words_of UnfitLegs = codes "legs unfit"
words_of TooFewLots = codes "too few lots"
words_of CeilingPassed = codes "ceiling passed"
words_of UnitsShort = codes "units short of covered lots"
words_of CashShort = codes "cash short of requirement"
words_of InstructionStands = codes "an instruction stands"
words_of TooFewLines = codes "too few lines"

-- as the console writes it: the number, then the words
abbrev pub told : Refusal → List ℕ
told r = decimal (number_of r) ++ (32 ∷ words_of r)
