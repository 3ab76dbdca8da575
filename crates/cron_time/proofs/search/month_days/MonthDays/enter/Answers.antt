use Rattle.cron_time.proofs.Searches.MonthDayLemmas.{known_place, month_of_day}
use Rattle.cron_time.proofs.search.month_days.MonthDays.enter.Goals as goal

pub returns-in-Some-clause-place : goal.returns-in-Some-clause-place
returns-in-Some-clause-place c =
    let set = rw c.in-Some.is at c.place_of.ensures.set in
    (known_place c.args.fields.now c.args.self.now c.args.day c.in-Some.place c.place_of.ensures.month.0 c.place_of.ensures.month.1 c.requires.known set.0
    set.1).0

pub returns-in-Some-clause-bound : goal.returns-in-Some-clause-bound
returns-in-Some-clause-bound c =
    let set = rw c.in-Some.is at c.place_of.ensures.set in
    (known_place c.args.fields.now c.args.self.now c.args.day c.in-Some.place c.place_of.ensures.month.0 c.place_of.ensures.month.1 c.requires.known set.0
    set.1).1

pub returns-in-Some-clause-month : goal.returns-in-Some-clause-month
returns-in-Some-clause-month c =
    let set = rw c.in-Some.is at c.place_of.ensures.set in
    let place = known_place c.args.fields.now c.args.self.now c.args.day c.in-Some.place c.place_of.ensures.month.0 c.place_of.ensures.month.1
    c.requires.known set.0 set.1 in
    month_of_day c.args.fields.now c.args.day c.args.self.now.month c.in-Some.place c.requires.in_range c.place_of.ensures.month.0
    c.place_of.ensures.month.1 place.1 place.0 c.requires.matching

pub returns-in-Some-clause-days : goal.returns-in-Some-clause-days
returns-in-Some-clause-days c =
    let set = rw c.in-Some.is at c.place_of.ensures.set in
    (known_place c.args.fields.now c.args.self.now c.args.day c.in-Some.place c.place_of.ensures.month.0 c.place_of.ensures.month.1 c.requires.known set.0
    set.1).2
