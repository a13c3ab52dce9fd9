use Rattle.std.proofs.Common.{get_or}
use Rattle.std.proofs.Math.ListN.{get_or-map}
use Rattle.language.specs.declared.token.Token.TheVariants.{Number}
use Rattle.language.proofs.args.numbers.Goals as goal

pub returns-in_default : goal.returns-in_default
returns-in_default c ns e =
    let i = c.loop-token.token-index in
    c.in_default.not-Number (get_or ns i 0) (rw e (get_or-map Number ns i 0))
