use Rattle.std.proofs.Common.{length}
use Rattle.cron_words.proofs.shapes.+have_same_sets.Given as goal

abbrev pub decreases-have_same_sets : goal.decreases-have_same_sets
decreases-have_same_sets l = length l.first.now
