use Rattle.std.specs.String.{string_bytes}
use Rattle.cron_crontab.specs.Views.{expression_view}
use Rattle.cron_tab_lines.specs.declared.kinds.Crontab.TheVariants.{User}
use Rattle.cron_tab_warnings.specs.Messages.{warning_text}
use Rattle.cron_tab_warnings.specs.Warnings.{Warns}
use Rattle.cron_tab_warnings.specs.declared.warnings.TheConstants.{WARNINGS}
use Rattle.cron_answers.specs.Reports.{warning_line}
use Rattle.cron_replies.proofs.ToldLemmas.{IsToldSoFar}
use Rattle.cron_answers.proofs.report.push_those_due.Given as goal

-- the warnings so far were told
abbrev pub invariant-loop-warning : goal.invariant-loop-warning
invariant-loop-warning l =
    IsToldSoFar (λ w. Warns User w l.text (expression_view l.expression)) (λ w. warning_line l.form (warning_text w)) WARNINGS l.warning-index
    (string_bytes l.initial.report) (string_bytes l.report)
