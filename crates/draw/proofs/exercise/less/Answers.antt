use Rattle.std.proofs.Common.{◌≡◌, ◌-◌, ◌∙◌, length, get_or, sym, arith, rules}
use Rattle.std.proofs.lemmas.List.{ext_get_or}
use Rattle.draw.specs.Fair.{less}
use Rattle.draw.specs.Tables.{get_or-less, length-less}
use Rattle.measures.proofs.Arrays.{made_at}
use Rattle.draw.proofs.exercise.less.Goals as goal

pub returns : goal.returns
returns c =
    let xs = c.args.lots in
    let ys = c.args.others in
    let long : length xs ≡ 16 = search rules in
    let made = c.from_fn.ensures.items in
    ext_get_or 0 c.from_fn.result (less xs ys) (omega (arith, made.long, length-less xs ys))
    (λ k l. made_at _ (λ j. get_or xs j 0 - get_or ys j 0) _ (λ j y q call. search rules) c.from_fn.result 0 16 k k 0 (omega (arith, made.long)) (omega arith) made.each ∙ sym (get_or-less xs ys k))
