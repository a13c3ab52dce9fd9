use Rattle.std.proofs.Common.{take}
use Rattle.std.specs.Fmt.{HasWritten, IsPlainFormatter}
use Rattle.desk.specs.Answers.{figures_text}
use Rattle.desk.proofs.answer.FiguresDisplay.fmt.Given as goal

abbrev pub invariant-loop-figure : goal.invariant-loop-figure
invariant-loop-figure g l =
    IsPlainFormatter l.initial.f → HasWritten g.W.Write.write_str_gives l.initial.f (figures_text (take l.figure-index l.self.0.now)) l.f
