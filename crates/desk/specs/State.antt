-- The draw that the desk starts with.
use Rattle.draw.specs.Choice.{wheel_at}
use Rattle.draw.specs.declared.choice.Choice.{Choice}
use Rattle.draw.specs.declared.choice.Choice.TheVariants as choice

abbrev pub first_draw : Choice
first_draw = choice.Plain (wheel_at 0)
