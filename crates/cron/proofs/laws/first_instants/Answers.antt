use Rattle.cron.proofs.InstantLemmas.{least_first, next_least, first_two}
use Rattle.cron.proofs.laws.first_instants.Goals as goal

pub returns-clause-first : goal.returns-clause-first
returns-clause-first c =
    least_first _ _ _ _ c.after-ahead.result _ _ c.after-ahead.ensures.sets c.after-ahead.ensures.zone c.after-ahead.ensures.cursor c.requires
    c.args.start.in_range c.next-first.ensures.steps.cursor

pub returns-clause-next : goal.returns-clause-next
returns-clause-next c =
    next_least _ _ _ _ c.after-ahead.result _ _ _ _ c.after-ahead.ensures.sets c.after-ahead.ensures.zone c.after-ahead.ensures.cursor c.requires
    c.next-first.ensures.steps.cursor c.next-second.ensures.steps.cursor

pub returns-clause-walked : goal.returns-clause-walked
returns-clause-walked c =
    first_two _ _ _ c.after-ahead.result _ _ _ _ c.after-ahead.ensures.sets c.after-ahead.ensures.zone c.after-ahead.ensures.cursor
    c.next-first.ensures.steps.cursor c.next-second.ensures.steps.cursor
