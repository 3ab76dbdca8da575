-- the ended runs were pushed, and one is open
use Rattle.std.proofs.Common.{◌≡◌}
use Rattle.cron_canonical.proofs.RunLemmas.{opened}
use Rattle.cron_words.proofs.ListLemmas.{with_runs}
use Rattle.cron_words.proofs.items.push_runs.Given as goal

abbrev pub invariant-loop-ordinal : goal.invariant-loop-ordinal
invariant-loop-ordinal l =
    with_runs l.initial.items.items (opened l.start l.start l.initial.ordinal-iterator) ≡ with_runs l.items.items (opened l.first l.last l.ordinal-iterator)
