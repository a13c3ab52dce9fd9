use Rattle.std.proofs.Common.{[]}
use Rattle.std.proofs.lemmas.List.{append-nil}
use Rattle.language.proofs.echo.read_words.Goals as goal

pub returns-clause-means : goal.returns-clause-means
returns-clause-means c = rw append-nil at (c.loop-word.invariant.means [] (rw c.in_default.ensures tt))
