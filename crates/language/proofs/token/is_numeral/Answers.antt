use Rattle.std.proofs.Common.{◌&&◌, refl, arith, rules, tests}
use Rattle.std.specs.Char.{is_ascii_digit}
use Rattle.std.specs.List.{list_all}
use Rattle.std.specs.Str.{all_ascii_digits}
use Rattle.std.proofs.lemmas.Bool.Decides.{nat_tests}
use Rattle.std.proofs.lemmas.Iterator.{YieldsList-from_slice}
use Rattle.std.proofs.lemmas.Iterator.Search.{all_from_yields_List}
use Rattle.std.proofs.lemmas.List.Recursion.{same_from_clauses}
use Rattle.language.proofs.token.is_numeral.Goals as goal

pub returns-then-not-is_empty : goal.returns-then-not-is_empty
returns-then-not-is_empty c =
    let digits = c.args.text.now in
    let all = all_from_yields_List is_ascii_digit _ _ c.all.result c.all.ensures.ran (YieldsList-from_slice digits cc) (λ x b q k. search (rules, tests)) in
    let same = same_from_clauses all_ascii_digits (list_all is_ascii_digit) (λ d rest. is_ascii_digit d && rest) refl (λ _ _. refl) (λ _ _. refl) digits in
    grind (arith, nat_tests)
