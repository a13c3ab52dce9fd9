use Rattle.std.proofs.Common.{arith}
use Rattle.calendar.proofs.Weekdays.{third_friday_is}
use Rattle.calendar.proofs.business.Days.third_friday.Goals as goal

pub returns : goal.returns
returns c =
    let month = c.args.self.now.month in
    third_friday_is month.year month.number _ (omega arith) (omega arith) (omega arith) (omega (arith, c.args.self.now.begins))
