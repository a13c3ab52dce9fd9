use Rattle.std.proofs.Common.{rules, tests}
use Rattle.std.proofs.lemmas.Iterator.Adapters.{option_map_id}
use Rattle.std.proofs.lemmas.Iterator.Search.{find_from_yields_List}
use Rattle.calendar.specs.Expiry.{business}
use Rattle.calendar.proofs.Countdown.{YieldsList-from_down}
use Rattle.calendar.proofs.Dates.{latest_found}
use Rattle.calendar.proofs.business.Days.latest_business_day.Goals as goal

pub returns : goal.returns
returns c =
    let days = c.args.self.now in
    let open_day = business days.month.year days.month.number days.holidays.now in
    let all = YieldsList-from_down c.down_from.result c.args.limit (search rules) (search rules) (search rules) in
    latest_found days.month.year days.month.number days.holidays.now c.args.limit c.requires c.find.result
    (rw option_map_id at
    (find_from_yields_List open_day _ _ c.find.result c.find.ensures.ran all (λ x b q k. search (rules, tests))))
