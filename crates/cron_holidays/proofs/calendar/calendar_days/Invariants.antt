use Rattle.std.proofs.Common.{◌≡◌, ◌≤◌, length, map}
use Rattle.cron_crontab.specs.Items.{and_then}
use Rattle.cron_holidays.specs.Calendars.{calendar_days, ended, with_contents}
use Rattle.cron_holidays.specs.Contents.{unfolded}
use Rattle.cron_holidays.specs.Views.{line_view, reading_view}
use Rattle.cron_holidays.proofs.calendar.calendar_days.Given as goal

-- the lines that are left lead to the same days
abbrev pub invariant-loop-rest : goal.invariant-loop-rest
invariant-loop-rest l = record {
  read : and_then (with_contents (reading_view l.reading) (unfolded (map line_view l.rest))) ended ≡ calendar_days (map line_view l.lines);
  within : length l.rest ≤ length l.lines;
}

abbrev pub decreases-loop-rest : goal.decreases-loop-rest
decreases-loop-rest l = length l.rest
