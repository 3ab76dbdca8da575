use Rattle.cron_tab_running.specs.Looks.{AreIdle, Idles}
use Rattle.cron_tab_running.proofs.looks.wait_for_change.Given as goal

-- so many looks found the crontabs as they were
abbrev pub invariant-loop-looks : goal.invariant-loop-looks
invariant-loop-looks g l = AreIdle (Idles g.C.AlarmClock.shows g.C.AlarmClock.waits g.F.Changing.changes) l.looks l.initial.clock l.clock
