use Rattle.std.proofs.Common.{◌≡◌, true}
use Rattle.std.specs.String.{string_bytes}
use Rattle.cron_tab_lines.specs.Views.{file_line_view}
use Rattle.cron_tab_warnings.specs.Messages.{line_warning_text}
use Rattle.cron_tab_warnings.specs.declared.files.TheConstants.{LINE_WARNINGS}
use Rattle.cron_tab_answers.specs.Checks.{is_told, warning_line}
use Rattle.cron_replies.proofs.ToldLemmas.{IsToldSoFar}
use Rattle.cron_tab_answers.proofs.check.tell_line_warnings.Given as goal

-- the warnings so far were told
abbrev pub invariant-loop-warning : goal.invariant-loop-warning
invariant-loop-warning l =
    IsToldSoFar (λ w. is_told w (file_line_view l.line) ≡ true) (λ w. warning_line l.front l.line.number (line_warning_text w)) LINE_WARNINGS l.warning-index
    (string_bytes l.initial.text) (string_bytes l.text)
