-- What the console answers, and in which words.
use Rattle.std.specs.Prelude.{ℕ, Bool, true, false, if◌then◌else◌, List, ◌∷◌, ◌++◌, codes, decimal}
use Rattle.std.specs.List.{flat_map, list_any}
use Rattle.measures.specs.Refusals.{told}
use Rattle.desk.specs.declared.answer.Answer.{Answer}
use Rattle.desk.specs.declared.answer.Answer.TheVariants.{Done, Value, Awards, Refused, Error}
use Rattle.desk.specs.declared.answer.Fault.{Fault}
use Rattle.desk.specs.declared.answer.Fault.TheVariants.{UnknownCommand, Usage, NumberTooLarge, LineTooLong}
use Rattle.language.specs.declared.token.Token.{Token}
use Rattle.language.specs.declared.token.Token.TheVariants.{TooLarge}
use Rattle.language.specs.declared.word.Verb.{Verb}
use Rattle.language.specs.Text.{usage}

abbrev pub fault_text : Fault → List ℕ
fault_text UnknownCommand = codes "unknown command"
fault_text (Usage verb) = usage verb
fault_text NumberTooLarge = codes "number above 18446744073709551615"
fault_text LineTooLong = codes "line longer than 65536 bytes"

-- each figure after a space
abbrev pub figures_text : List ℕ → List ℕ
figures_text ns = flat_map (λ n. 32 ∷ decimal n) ns

abbrev pub answer_text : Answer → List ℕ
answer_text Done = codes "ok"
answer_text (Value n) = codes "ok " ++ decimal n
answer_text (Awards awards) = codes "ok" ++ figures_text awards
answer_text (Refused why) = codes "refused " ++ told why
answer_text (Error fault) = codes "error " ++ fault_text fault

abbrev pub too_large : Token → Bool
too_large TooLarge = true
too_large _ = false

-- why the tokens that follow the verb do not write its command
abbrev pub fault_of : Verb → List Token → Fault
fault_of verb ts = if list_any too_large ts then NumberTooLarge else Usage verb
