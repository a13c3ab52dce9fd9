use Rattle.std.proofs.Common.{rules, tests}
use Rattle.std.proofs.lemmas.Iterator.{YieldsList-from_map, YieldsList-from_slice}
use Rattle.std.proofs.lemmas.Iterator.Adapters.{items_from_extend}
use Rattle.language.specs.Text.{printed}
use Rattle.language.proofs.Echoes.{echo_utf8}
use Rattle.language.proofs.echo.echo_word.Goals as goal

pub returns : goal.returns
returns c =
    let shown = items_from_extend c.extend.result c.extend.ensures.ran (YieldsList-from_map _ printed (YieldsList-from_slice c.args.word.now cc) (cc) (λ x r q k. search (rules, tests))) in
    rw (echo_utf8 c.args.word.now) at shown
