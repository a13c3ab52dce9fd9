use Rattle.std.proofs.Common.{ap}
use Rattle.draw.specs.declared.choice.Plain.TheVariants.{Wheel}
use Rattle.draw.proofs.Known.{same_wheel}
use Rattle.draw.proofs.choice.Plain.wheel.Goals as goal

pub returns : goal.returns
returns c = ap Wheel (same_wheel _ _ c.at.ensures)
