use Rattle.std.proofs.Common.{ap}
use Rattle.draw.specs.declared.choice.Choice.TheVariants.{InRounds}
use Rattle.draw.proofs.Known.{same_rounds}
use Rattle.draw.proofs.choice.Choice.rounds.Goals as goal

pub returns : goal.returns
returns c = ap InRounds (same_rounds _ _ c.of.ensures.most c.of.ensures.below)
