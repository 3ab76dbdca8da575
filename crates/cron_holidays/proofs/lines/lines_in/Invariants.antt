use Rattle.std.proofs.Common.{◌≡◌, ◌≤◌, ◌+◌, ◌++◌, length, map}
use Rattle.cron_tab_lines.specs.Files.{lines_of}
use Rattle.cron_holidays.specs.Lines.{lines_in, numbered}
use Rattle.cron_holidays.specs.Views.{line_view}
use Rattle.cron_holidays.proofs.lines.lines_in.Given as goal

abbrev pub invariant-loop-rest : goal.invariant-loop-rest
invariant-loop-rest l = record {
  read : map line_view l.lines.items ++ numbered (l.number + 1) (lines_of l.rest) ≡ lines_in l.file;
  counted : l.number + length l.rest ≤ length l.file;
}

abbrev pub decreases-loop-rest : goal.decreases-loop-rest
decreases-loop-rest l = length l.rest
