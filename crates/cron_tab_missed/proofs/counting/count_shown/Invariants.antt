use Rattle.std.proofs.Common.{◌≡◌, map}
use Rattle.jiff.specs.Words.{plain_zone}
use Rattle.cron_unions.specs.Unions.{any_of}
use Rattle.cron_agenda.specs.declared.fire.EntryFire.TheVariants.{AsShown}
use Rattle.cron_tab_fires.specs.Fires.{shown_between}
use Rattle.cron_tab_missed.specs.Inner.Counting.{with_fires}
use Rattle.cron_tab_missed.specs.Missed.{missed_of}
use Rattle.cron_tab_missed.proofs.counting.count_shown.Given as goal

-- the fires so far with those that are left are all
abbrev pub invariant-loop-moment : goal.invariant-loop-moment
invariant-loop-moment l =
    with_fires l.missed (map AsShown l.moment-iterator) ≡ missed_of (shown_between (any_of l.schedules) (plain_zone l.fn.zone) l.fn.start.nanosecond l.fn.end.nanosecond)
