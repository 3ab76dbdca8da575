use Rattle.std.proofs.Common.{◌≡◌, ◌<◌, ℕ, get_or, true}
use Rattle.std.specs.Prelude.{not}
use Rattle.cron_crontab.specs.Crontab.{is_break}
use Rattle.cron_crontab.proofs.words.break_at.Given as goal

abbrev pub invariant-loop-at : goal.invariant-loop-at
invariant-loop-at l = (k : ℕ) → k < l.at → not (is_break (get_or l.text k 0)) ≡ true
