use Rattle.std.proofs.Common.{ℕ, ◌<◌, ◌≤◌, length, get_or, sym, arith, rules}
use Rattle.draw.proofs.AfterLast.{after_none, after_some}
use Rattle.draw.proofs.wheel.after_last.Goals as goal

pub returns-in-Some : goal.returns-in-Some
returns-in-Some c =
    let xs = c.args.awards.now in
    let k = c.in-Some.k in
    let some : 0 < get_or xs k 0 = search rules in
    let none : (j : ℕ) → k < j → j < length xs → get_or xs j 0 ≤ 0 = search rules in
    sym (after_some c.args.place c.args.account xs k some (λ j h l. omega (arith, none j h l)))

pub returns-in-None : goal.returns-in-None
returns-in-None c =
    let xs = c.args.awards.now in
    let none : (j : ℕ) → j < length xs → get_or xs j 0 ≤ 0 = search rules in
    sym (after_none c.args.place c.args.account xs (λ j l. omega (arith, none j l)))
