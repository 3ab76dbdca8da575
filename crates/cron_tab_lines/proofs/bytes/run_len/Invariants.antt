use Rattle.std.proofs.Common.{◌≡◌, ◌<◌, ℕ, get_or, true}
use Rattle.cron_tab_lines.specs.Inner.Classes.{in_class}
use Rattle.cron_tab_lines.proofs.bytes.run_len.Given as goal

abbrev pub invariant-loop-at : goal.invariant-loop-at
invariant-loop-at l = (k : ℕ) → k < l.at → in_class l.class (get_or l.text k 0) ≡ true
