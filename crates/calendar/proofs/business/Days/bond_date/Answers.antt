use Rattle.std.proofs.Common.{rules, tests}
use Rattle.std.proofs.lemmas.Iterator.Adapters.{option_map_id}
use Rattle.std.proofs.lemmas.Iterator.Consumers.{YieldsList-at, YieldsList-from_filter, nth_from_yields_List}
use Rattle.calendar.specs.Days.{month_length}
use Rattle.calendar.specs.Expiry.{business}
use Rattle.calendar.proofs.Countdown.{YieldsList-from_down}
use Rattle.calendar.proofs.Dates.{bond_found}
use Rattle.calendar.proofs.business.Days.bond_date.Goals as goal

pub returns : goal.returns
returns c =
    let days = c.args.self.now in
    let open_day = business days.month.year days.month.number days.holidays.now in
    let all =
    YieldsList-from_down c.down_from.result (month_length days.month.year days.month.number) (search rules) (search rules)
    (search rules)
    in
    bond_found days.month.year days.month.number days.holidays.now c.nth.result
    (rw option_map_id at
    (nth_from_yields_List c.nth.result _ 2 c.nth.ensures.ran
    (YieldsList-from_filter _ open_day (YieldsList-at c.filter.ensures.source all) c.filter.ensures.closure
    (λ x b q k. search (rules, tests)))))
