use Rattle.std.proofs.Common.{◌≡◌, List, ◌++◌, length, vec_items, string_bytes}
use Rattle.language.specs.Text.{Meant, echoed_on, words}
use Rattle.language.specs.declared.token.Token.{Token}
use Rattle.language.proofs.echo.read_words.Given as goal

-- what was read so far, and then what the rest means, is what the text means; and so for the echo
abbrev pub invariant-loop-word : goal.invariant-loop-word
invariant-loop-word l = record {
  means : (ts : List Token) → Meant (words l.rest) ts → Meant (words l.text) (vec_items l.tokens ++ ts);
  echoes : string_bytes l.out ++ echoed_on (words l.rest) ≡ string_bytes l.initial.out ++ echoed_on (words l.text);
}

abbrev pub decreases-loop-word : goal.decreases-loop-word
decreases-loop-word l = length l.rest
