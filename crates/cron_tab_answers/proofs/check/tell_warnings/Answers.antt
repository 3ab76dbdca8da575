use Rattle.std.proofs.Common.{ap, ◌∙◌}
use Rattle.cron_writer.proofs.Sending.{both_ways}
use Rattle.std.specs.String.{string_bytes}
use Rattle.cron_crontab.specs.Views.{expression_view}
use Rattle.cron_tab_warnings.specs.Messages.{warning_text}
use Rattle.cron_tab_warnings.specs.Warnings.{Warns}
use Rattle.cron_tab_warnings.specs.declared.warnings.TheConstants.{WARNINGS}
use Rattle.cron_tab_answers.specs.Checks.{warning_line}
use Rattle.cron_replies.proofs.ToldLemmas.{begun, passed_on, told_on, told_to_end}
use Rattle.cron_tab_answers.proofs.check.tell_warnings.Goals as goal
use Rattle.cron_tab_answers.proofs.check.tell_warnings.Goals.{then-warns+in_ok-writeln, else-warns}

pub loop-warning-init : goal.loop-warning-init
loop-warning-init c =
    begun (λ w. Warns c.args.wanted.now.kind w c.args.fields.now (expression_view c.args.expression.now))
    (λ w. warning_line c.args.wanted.now.front.now c.args.number (warning_text w)) WARNINGS (string_bytes c.args.text.now)

pub loop-warning-preserved : goal.loop-warning-preserved
loop-warning-preserved c =
    elim c.if-warns.branch [
      | then-warns+in_ok-writeln w ↦
          told_on (λ w. Warns c.args.wanted.now.kind w c.args.fields.now (expression_view c.args.expression.now))
          (λ w. warning_line c.args.wanted.now.front.now c.args.number (warning_text w)) WARNINGS c.loop-warning.warning-index _ (string_bytes c.args.text.now)
          (string_bytes c.loop-warning.text) (string_bytes c.if-warns.text) c.loop-warning-test.true (c.warns.ensures.0 w.if-warns.true) (ap string_bytes w.text-is ∙ w.in_ok-writeln.ensures.bytes) c.loop-warning.invariant
      | else-warns w ↦
          passed_on (λ w. Warns c.args.wanted.now.kind w c.args.fields.now (expression_view c.args.expression.now))
          (λ w. warning_line c.args.wanted.now.front.now c.args.number (warning_text w)) WARNINGS c.loop-warning.warning-index _ (string_bytes c.args.text.now)
          (string_bytes c.loop-warning.text) (string_bytes c.if-warns.text) c.loop-warning-test.true (λ h. both_ways _ (c.warns.ensures.1 h) w.if-warns.false) (ap string_bytes w.text-is) c.loop-warning.invariant
    ]

pub returns : goal.returns
returns c =
    told_to_end (λ w. Warns c.args.wanted.now.kind w c.args.fields.now (expression_view c.args.expression.now))
    (λ w. warning_line c.args.wanted.now.front.now c.args.number (warning_text w)) WARNINGS c.loop-warning.warning-index (string_bytes c.args.text.now)
    (string_bytes c.loop-warning.text) c.loop-warning-test.false c.loop-warning.invariant
