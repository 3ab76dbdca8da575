use Rattle.std.proofs.Common.{◌≡◌, ◌<◌, ℕ, get_or, true}
use Rattle.std.specs.Char.{is_ascii_digit}
use Rattle.cron_kubernetes.proofs.durations.whole_len.Given as goal

abbrev pub invariant-loop-at : goal.invariant-loop-at
invariant-loop-at l = (k : ℕ) → k < l.at → is_ascii_digit (get_or l.text k 0) ≡ true
