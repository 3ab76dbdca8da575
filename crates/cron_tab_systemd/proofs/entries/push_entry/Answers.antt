use Rattle.std.proofs.Common.{map}
use Rattle.jiff.specs.Words.{plain_zone}
use Rattle.cron_shell.specs.Lines.{variable_view}
use Rattle.cron_tab_lines.specs.Views.{entry_view, file_line_view}
use Rattle.cron_tab_systemd.specs.Lines.{given}
use Rattle.cron_tab_systemd.proofs.MadeLemmas.{has_units, is_left_out, went_on}
use Rattle.cron_tab_systemd.proofs.entries.push_entry.Goals as goal

pub returns-in-Ok : goal.returns-in-Ok
returns-in-Ok c =
    went_on c.push_written.result _ _
    (has_units (given c.args.asked.now) (plain_zone c.args.zone.now) (map variable_view c.args.variables.now) (file_line_view c.args.line.now)
    (entry_view c.args.entry.now) c.in-Ok.units c.args.made.now.items c.push_written.new.made.items c.in-Ok.ensures)
    c.push_written.ensures

pub returns-in-Err-Unsaid : goal.returns-in-Err-Unsaid
returns-in-Err-Unsaid c =
    went_on c.push_left_out.result _ _
    (is_left_out (given c.args.asked.now) (plain_zone c.args.zone.now) (map variable_view c.args.variables.now) (file_line_view c.args.line.now)
    (entry_view c.args.entry.now) c.in-Err-Unsaid.why c.args.made.now.items c.push_left_out.new.made.items (rw c.in-Err-Unsaid.field-0-is at c.in-Err-Unsaid.ensures))
    (rw c.in-Err-Unsaid.field-0-is at c.push_left_out.ensures)
