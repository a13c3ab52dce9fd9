use Rattle.draw.proofs.GoesRound.{wheel_goes_round}
use Rattle.draw.proofs.wheel.wheel_goes_round.Goals as goal

pub returns : goal.returns
returns c = wheel_goes_round
