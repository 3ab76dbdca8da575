use Rattle.std.proofs.Common.{◌≡◌, ◌-◌, ◌≤◌, length}
use Rattle.cron_tab_lines.specs.Entries.{behind_words}
use Rattle.cron_tab_lines.proofs.entries.behind_words.Given as goal

abbrev pub invariant-loop-place : goal.invariant-loop-place
invariant-loop-place l = record {
  left : behind_words (l.count - l._place) l.rest ≡ behind_words l.count l.text;
  shorter : length l.rest ≤ length l.text;
}
