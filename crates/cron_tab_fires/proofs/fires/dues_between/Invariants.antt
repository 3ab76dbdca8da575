use Rattle.std.proofs.Common.{◌≡◌, ◌++◌, map}
use Rattle.jiff.specs.Words.{plain_zone}
use Rattle.cron_unions.specs.Unions.{any_of}
use Rattle.cron_agenda.specs.declared.fire.EntryFire.TheVariants.{Once}
use Rattle.cron_tab_fires.specs.Fires.{dues_between}
use Rattle.cron_tab_fires.proofs.fires.dues_between.Given as goal

-- behind the fires so far stand those that are left
abbrev pub invariant-loop-due : goal.invariant-loop-due
invariant-loop-due l =
    l.fires.items ++ map Once l.due-iterator ≡ dues_between (any_of l.schedules) (plain_zone l.fn.zone) l.fn.start.nanosecond l.fn.end.nanosecond
