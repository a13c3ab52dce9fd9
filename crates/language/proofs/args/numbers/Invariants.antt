use Rattle.std.proofs.Common.{◌≡◌, map, take, vec_items}
use Rattle.language.specs.declared.token.Token.TheVariants.{Number}
use Rattle.language.proofs.args.numbers.Given as goal

abbrev pub invariant-loop-token : goal.invariant-loop-token
invariant-loop-token l = take l.token-index l.tokens ≡ map Number (vec_items l.all)
