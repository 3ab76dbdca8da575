use Rattle.std.proofs.Common.{◌≡◌, map}
use Rattle.jiff.specs.Words.{plain_zone}
use Rattle.cron_unions.specs.Unions.{any_of}
use Rattle.cron_agenda.specs.declared.fire.EntryFire.TheVariants.{Once}
use Rattle.cron_tab_fires.specs.Fires.{dues_between}
use Rattle.cron_tab_missed.specs.Inner.Counting.{with_fires}
use Rattle.cron_tab_missed.specs.Missed.{missed_of}
use Rattle.cron_tab_missed.proofs.counting.count_dues.Given as goal

-- the fires so far with those that are left are all
abbrev pub invariant-loop-due : goal.invariant-loop-due
invariant-loop-due l =
    with_fires l.missed (map Once l.due-iterator) ≡ missed_of (dues_between (any_of l.schedules) (plain_zone l.fn.zone) l.fn.start.nanosecond l.fn.end.nanosecond)
