use Rattle.std.specs.String.{string_bytes}
use Rattle.cron_tab_lines.specs.Views.{file_line_view}
use Rattle.cron_tab_answers.proofs.CheckLemmas.{warnings_told}
use Rattle.cron_tab_answers.proofs.check.tell_if_wanted.Goals as goal

pub returns : goal.returns
returns c =
    warnings_told c.args.wanted.now.warn c.args.wanted.now (file_line_view c.args.line.now) (string_bytes c.args.text.now)
    (string_bytes c.tell_entry_warnings.new.text) (string_bytes c.tell_line_warnings.new.text) (string_bytes c.tell_found.new.text) c.if-not-wanted.false
    c.in_ok-tell_entry_warnings.ensures c.in_ok-tell_line_warnings.ensures c.in_ok-tell_found.ensures
