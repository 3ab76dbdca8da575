use Rattle.std.proofs.Common.{Some, None}
use Rattle.jiff.specs.Words.{plain_zone}
use Rattle.cron_tab_answers.proofs.ExplainedLemmas.{next_due, next_shown}
use Rattle.cron_tab_answers.proofs.explained.next_of.Goals as goal

pub returns-in-Some : goal.returns-in-Some
returns-in-Some c =
    rw (c.in-AsShown.is, c.in-Fires.is) (next_shown c.as_slice.result.now c.in-Fires.schedules (plain_zone c.args.zone.now) c.args.start.nanosecond (Some c.in-Some.moment)
    c.as_slice.ensures.list c.in-Some.ensures)

pub returns-in-None : goal.returns-in-None
returns-in-None c =
    rw (c.in-AsShown.is, c.in-Fires.is) (next_shown c.as_slice.result.now c.in-Fires.schedules (plain_zone c.args.zone.now) c.args.start.nanosecond None c.as_slice.ensures.list
    c.in-None.ensures)

pub returns-in-Some-first_due_after : goal.returns-in-Some-first_due_after
returns-in-Some-first_due_after c =
    rw (c.in-Once.is, c.in-Fires.is) (next_due c.as_slice.result.now c.in-Fires.schedules (plain_zone c.args.zone.now) c.args.start.nanosecond
    (Some c.in-Some-first_due_after.due) c.as_slice.ensures.list c.in-Some-first_due_after.ensures)

pub returns-in-None-first_due_after : goal.returns-in-None-first_due_after
returns-in-None-first_due_after c =
    rw (c.in-Once.is, c.in-Fires.is) (next_due c.as_slice.result.now c.in-Fires.schedules (plain_zone c.args.zone.now) c.args.start.nanosecond None c.as_slice.ensures.list
    c.in-None-first_due_after.ensures)
