use Rattle.std.proofs.Common.{[], sym}
use Rattle.std.proofs.lemmas.List.{append-nil}
use Rattle.std.proofs.lemmas.Result.{IfOk-weaker}
use Rattle.desk.proofs.Runs.{on_byte, on_end}
use Rattle.desk.proofs.run.Console.hear_byte.Goals as goal

pub returns-in_ok-end_line : goal.returns-in_ok-end_line
returns-in_ok-end_line c =
    let p = c.in_ok-end_line.ensures in
    (p.1.0, p.1.1, on_end p.0 _ p.1.0 (c.is_end.ensures.0 c.if-is_end.true) p.1.2 p.2)

pub returns-else-is_end : goal.returns-else-is_end
returns-else-is_end c =
    let no_end = c.if-is_end.false in
    IfOk-weaker c.keep.result _ _ (λ _ e. ([], sym (append-nil _), on_byte (λ ten. let end = c.is_end.ensures.1 ten in cc) e)) c.keep.ensures
