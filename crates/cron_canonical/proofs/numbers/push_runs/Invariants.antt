-- the ended runs were pushed, one is open, and what is left fits
use Rattle.std.proofs.Common.{◌≡◌, ◌≤◌, length}
use Rattle.cron_canonical.proofs.RunLemmas.{opened, pushed}
use Rattle.cron_canonical.proofs.numbers.push_runs.Given as goal

abbrev pub invariant-loop-ordinal : goal.invariant-loop-ordinal
invariant-loop-ordinal l =
    (pushed l.initial.text.items (opened l.start l.start l.initial.ordinal-iterator) ≡ pushed l.text.items (opened l.first l.last l.ordinal-iterator))
    × (length (pushed l.initial.text.items (opened l.start l.start l.initial.ordinal-iterator)) ≤ 1245)
