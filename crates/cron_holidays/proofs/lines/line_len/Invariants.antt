use Rattle.std.proofs.Common.{◌≡◌, ◌+◌, drop}
use Rattle.cron_tab_lines.specs.Inner.Cuts.{line_len}
use Rattle.cron_holidays.proofs.lines.line_len.Given as goal

abbrev pub invariant-loop-at : goal.invariant-loop-at
invariant-loop-at l = l.at + line_len (drop l.at l.text) ≡ line_len l.text
