use Rattle.std.proofs.Common.{◌≡◌, ◌<◌, ℕ, get_or, true}
use Rattle.std.specs.Char.{is_ascii_alphanumeric}
use Rattle.cron_crontab.proofs.numbers.front_len.Given as goal

abbrev pub invariant-loop-at : goal.invariant-loop-at
invariant-loop-at l = (k : ℕ) → k < l.at → is_ascii_alphanumeric (get_or l.text k 0) ≡ true
