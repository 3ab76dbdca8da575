use Rattle.std.proofs.Common.{◌≡◌, ◌<◌, ℕ, get_or, true}
use Rattle.std.specs.Prelude.{not, ◌==◌}
use Rattle.cron_crontab.proofs.words.mark_at.Given as goal

abbrev pub invariant-loop-at : goal.invariant-loop-at
invariant-loop-at l = (k : ℕ) → k < l.at → not (get_or l.text k 0 == l.mark) ≡ true
