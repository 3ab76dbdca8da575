use Rattle.std.proofs.Common.{◌≡◌, ◌++◌, length}
use Rattle.std.specs.List.{flat_map, list_all}
use Rattle.cron_shell.specs.Lines.{input_lines}
use Rattle.cron_systemd.specs.Sayable.{is_calendar}
use Rattle.cron_systemd.specs.Texts.{calendar_text}
use Rattle.cron_systemd.proofs.timer.push_calendars.Given as goal

-- what was pushed, with the lines that are left, is what all of them make, and these decide whether
-- all are taken
abbrev pub invariant-loop-rest : goal.invariant-loop-rest
invariant-loop-rest l = record {
  pushed : l.text.items ++ flat_map calendar_text (input_lines l.rest) ≡ l.initial.text.items ++ flat_map calendar_text (input_lines l.calendars);
  taken : list_all is_calendar (input_lines l.calendars) ≡ list_all is_calendar (input_lines l.rest);
}

abbrev pub decreases-loop-rest : goal.decreases-loop-rest
decreases-loop-rest l = length l.rest
