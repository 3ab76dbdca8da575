use Rattle.std.proofs.Common.{length}
use Rattle.cron_tab_comparing.proofs.twins.+have_same_sets.Given as goal

abbrev pub decreases-have_same_sets : goal.decreases-have_same_sets
decreases-have_same_sets l = length l.first.now
