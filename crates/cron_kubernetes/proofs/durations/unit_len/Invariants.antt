use Rattle.std.proofs.Common.{◌≡◌, ◌<◌, ℕ, get_or, true}
use Rattle.std.specs.Prelude.{not}
use Rattle.cron_kubernetes.specs.Durations.{is_numeral}
use Rattle.cron_kubernetes.proofs.durations.unit_len.Given as goal

abbrev pub invariant-loop-at : goal.invariant-loop-at
invariant-loop-at l = (k : ℕ) → k < l.at → not (is_numeral (get_or l.text k 0)) ≡ true
