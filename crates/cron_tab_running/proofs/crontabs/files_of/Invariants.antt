use Rattle.std.proofs.Common.{take}
use Rattle.cron_tab_running.specs.Looks.{AreFound}
use Rattle.cron_tab_running.proofs.crontabs.files_of.Given as goal

abbrev pub invariant-loop-tab : goal.invariant-loop-tab
invariant-loop-tab l = AreFound (take l.tab-index l.tabs) l.files.items
