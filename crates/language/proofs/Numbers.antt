-- What `parse` and `from_utf8` tell of a word: a numeral's number, and that the words of the language are text.
use Rattle.std.proofs.Common.{◌≡◌, ℕ, ◌^◌, ◌<◌, true, List, Ok, Err, IsUtf8, MatchResult, Result, nat_lt, sym, subst, arith, rules}
use Rattle.std.specs.List.{list_all}
use Rattle.std.specs.Str.Parse.{ParsesUnsigned}
use Rattle.std.specs.Str.{all_ascii_digits}
use Rattle.std.proofs.lemmas.Str.Parse.{IsNumeralModel, numerals_by_fold, parse_digits}
use Rattle.std.proofs.lemmas.Bool.Decides.{nat_tests}
use Rattle.std.proofs.lemmas.List.Sums.{AllPass-from_list_all}
use Rattle.std.proofs.lemmas.Str.{IsUtf8-from_ascii}
use Rattle.std.proofs.lemmas.Str.Ascii.{IsAscii-from_all}
use Rattle.std.proofs.lemmas.Fmt.{IsAscii-from_digits}
use Rattle.language.specs.Text.{Means, Numeral, number_on, named, spelled}
use Rattle.language.specs.declared.token.Token.{Token}
use Rattle.language.specs.declared.word.Verb.{Verb}
use Rattle.language.specs.declared.word.Word.{Word}
use Rattle.language.specs.declared.token.Token.TheVariants.{Number, TooLarge, Unknown}

pub own : IsNumeralModel (λ ds. all_ascii_digits ds ≡ true) (number_on 0)
own = numerals_by_fold _ (search rules) number_on (search rules)

ascii_utf8 : (bs : List ℕ) → list_all (λ b. nat_lt b 128) bs ≡ true → IsUtf8 bs
ascii_utf8 bs h =
    let tested = AllPass-from_list_all (λ b. nat_lt b 128) bs h in
    IsUtf8-from_ascii bs (IsAscii-from_all bs (λ k d l. let t = tested k d l in grind (arith, nat_tests)))

-- digits, and the words of the language, are UTF-8
pub digits_utf8 : (bs : List ℕ) → all_ascii_digits bs ≡ true → IsUtf8 bs
digits_utf8 bs h = IsUtf8-from_ascii bs (IsAscii-from_digits bs (own.to bs h))

pub verbs_utf8 : (v : Verb) → IsUtf8 (named v)
verbs_utf8 v = ascii_utf8 (named v) (grind arith)

pub words_utf8 : (w : Word) → IsUtf8 (spelled w)
words_utf8 w = ascii_utf8 (spelled w) (grind arith)

-- what is not UTF-8 means nothing
pub unknown_unless_utf8 : (bs : List ℕ) → (IsUtf8 bs → ⊥) → Means bs Unknown
unknown_unless_utf8 bs no_text = (
  λ n. no_text (digits_utf8 bs n.1),
  λ v e. no_text (rw e (verbs_utf8 v)),
  λ w e. no_text (rw e (words_utf8 w)),
)

-- a numeral means the number that `parse` reads, and is too large where it reads none
pub numeral_means : {E : Type 0} (bs : List ℕ) (r : Result ℕ E) (t : Token) → Numeral bs → ParsesUnsigned 64 10 bs r → MatchResult r (λ n. t ≡ Number n) (λ _. t ≡ TooLarge) → Means bs t
numeral_means {E} bs (Ok n) t numeral reads e = subst (Means bs) (sym e) (numeral, sym (parse_digits own {E = E} 64 bs (Ok n) reads numeral.1).1)
numeral_means {E} bs (Err d) t numeral reads e =
    let small : number_on 0 bs < 2 ^ 64 → ⊥ = λ h. parse_digits own {E = E} 64 bs (Err d) reads numeral.1 (numeral.0, h) in
    subst (Means bs) (sym e) (numeral, omega arith)
