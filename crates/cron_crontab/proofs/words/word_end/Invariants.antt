use Rattle.std.proofs.Common.{◌≡◌, ◌≤◌, ◌<◌, ℕ, get_or, false}
use Rattle.cron_text.specs.Tokens.{is_space}
use Rattle.cron_crontab.proofs.words.word_end.Given as goal

abbrev pub invariant-loop-at : goal.invariant-loop-at
invariant-loop-at l = (k : ℕ) → l.from ≤ k → k < l.at → is_space (get_or l.text k 0) ≡ false
