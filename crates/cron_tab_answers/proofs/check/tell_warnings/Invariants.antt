use Rattle.std.specs.String.{string_bytes}
use Rattle.cron_crontab.specs.Views.{expression_view}
use Rattle.cron_tab_warnings.specs.Messages.{warning_text}
use Rattle.cron_tab_warnings.specs.Warnings.{Warns}
use Rattle.cron_tab_warnings.specs.declared.warnings.TheConstants.{WARNINGS}
use Rattle.cron_tab_answers.specs.Checks.{warning_line}
use Rattle.cron_replies.proofs.ToldLemmas.{IsToldSoFar}
use Rattle.cron_tab_answers.proofs.check.tell_warnings.Given as goal

-- the warnings so far were told
abbrev pub invariant-loop-warning : goal.invariant-loop-warning
invariant-loop-warning l =
    IsToldSoFar (λ w. Warns l.wanted.kind w l.fields (expression_view l.expression)) (λ w. warning_line l.wanted.front.now l.fn.number (warning_text w)) WARNINGS l.warning-index
    (string_bytes l.initial.text) (string_bytes l.text)
