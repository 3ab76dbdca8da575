use Rattle.std.proofs.Common.{ap, ◌∙◌}
use Rattle.cron_writer.proofs.Sending.{both_ways}
use Rattle.std.specs.String.{string_bytes}
use Rattle.cron_crontab.specs.Views.{expression_view}
use Rattle.cron_tab_lines.specs.declared.kinds.Crontab.TheVariants.{User}
use Rattle.cron_tab_warnings.specs.Messages.{warning_text}
use Rattle.cron_tab_warnings.specs.Warnings.{Warns}
use Rattle.cron_tab_warnings.specs.declared.warnings.TheConstants.{WARNINGS}
use Rattle.cron_answers.specs.Reports.{warning_line}
use Rattle.cron_replies.proofs.ToldLemmas.{begun, passed_on, told_on, told_to_end}
use Rattle.cron_answers.proofs.report.push_those_due.Goals as goal
use Rattle.cron_answers.proofs.report.push_those_due.Goals.{then-warns+in_ok-push_warning, else-warns}

pub loop-warning-init : goal.loop-warning-init
loop-warning-init c =
    begun (λ w. Warns User w c.args.text.now (expression_view c.args.expression.now))
    (λ w. warning_line c.args.form (warning_text w)) WARNINGS (string_bytes c.args.report.now)

pub loop-warning-preserved : goal.loop-warning-preserved
loop-warning-preserved c =
    elim c.if-warns.branch [
      | then-warns+in_ok-push_warning w ↦
          told_on (λ w. Warns User w c.args.text.now (expression_view c.args.expression.now))
          (λ w. warning_line c.args.form (warning_text w)) WARNINGS c.loop-warning.warning-index _ (string_bytes c.args.report.now)
          (string_bytes c.loop-warning.report) (string_bytes c.if-warns.report) c.loop-warning-test.true (c.warns.ensures.0 w.if-warns.true) (ap string_bytes w.report-is ∙ w.in_ok-push_warning.ensures) c.loop-warning.invariant
      | else-warns w ↦
          passed_on (λ w. Warns User w c.args.text.now (expression_view c.args.expression.now))
          (λ w. warning_line c.args.form (warning_text w)) WARNINGS c.loop-warning.warning-index _ (string_bytes c.args.report.now)
          (string_bytes c.loop-warning.report) (string_bytes c.if-warns.report) c.loop-warning-test.true (λ h. both_ways _ (c.warns.ensures.1 h) w.if-warns.false) (ap string_bytes w.report-is) c.loop-warning.invariant
    ]

pub returns : goal.returns
returns c =
    told_to_end (λ w. Warns User w c.args.text.now (expression_view c.args.expression.now))
    (λ w. warning_line c.args.form (warning_text w)) WARNINGS c.loop-warning.warning-index (string_bytes c.args.report.now)
    (string_bytes c.loop-warning.report) c.loop-warning-test.false c.loop-warning.invariant
