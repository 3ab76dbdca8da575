use Rattle.std.proofs.Common.{◌≡◌, ◌++◌, map}
use Rattle.jiff.specs.Words.{plain_zone}
use Rattle.cron_unions.specs.Unions.{any_of}
use Rattle.cron_agenda.specs.declared.fire.EntryFire.TheVariants.{AsShown}
use Rattle.cron_tab_fires.specs.Fires.{shown_between}
use Rattle.cron_tab_fires.proofs.fires.shown_between.Given as goal

-- behind the fires so far stand those that are left
abbrev pub invariant-loop-moment : goal.invariant-loop-moment
invariant-loop-moment l =
    l.fires.items ++ map AsShown l.moment-iterator ≡ shown_between (any_of l.schedules) (plain_zone l.fn.zone) l.fn.start.nanosecond l.fn.end.nanosecond
