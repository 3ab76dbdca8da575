use Rattle.std.proofs.Common.{◌≡◌, true, ap, sym, ◌∙◌}
use Rattle.cron_writer.proofs.Sending.{both_ways}
use Rattle.std.specs.String.{string_bytes}
use Rattle.cron_tab_lines.specs.Views.{file_line_view}
use Rattle.cron_tab_warnings.specs.Messages.{line_warning_text}
use Rattle.cron_tab_warnings.specs.declared.files.TheConstants.{LINE_WARNINGS}
use Rattle.cron_tab_answers.specs.Checks.{is_told, warning_line}
use Rattle.cron_replies.proofs.ToldLemmas.{begun, passed_on, told_on, told_to_end}
use Rattle.cron_tab_answers.proofs.check.tell_line_warnings.Goals as goal
use Rattle.cron_tab_answers.proofs.check.tell_line_warnings.Goals.{then-is_told+in_ok-writeln, else-is_told}

pub loop-warning-init : goal.loop-warning-init
loop-warning-init c =
    begun (λ w. is_told w (file_line_view c.args.line.now) ≡ true)
    (λ w. warning_line c.args.front.now c.args.line.now.number (line_warning_text w)) LINE_WARNINGS (string_bytes c.args.text.now)

pub loop-warning-preserved : goal.loop-warning-preserved
loop-warning-preserved c =
    elim c.if-is_told.branch [
      | then-is_told+in_ok-writeln w ↦
          told_on (λ w. is_told w (file_line_view c.args.line.now) ≡ true)
          (λ w. warning_line c.args.front.now c.args.line.now.number (line_warning_text w)) LINE_WARNINGS c.loop-warning.warning-index _ (string_bytes c.args.text.now)
          (string_bytes c.loop-warning.text) (string_bytes c.if-is_told.text) c.loop-warning-test.true (sym c.is_told.ensures ∙ w.if-is_told.true) (ap string_bytes w.text-is ∙ w.in_ok-writeln.ensures.bytes) c.loop-warning.invariant
      | else-is_told w ↦
          passed_on (λ w. is_told w (file_line_view c.args.line.now) ≡ true)
          (λ w. warning_line c.args.front.now c.args.line.now.number (line_warning_text w)) LINE_WARNINGS c.loop-warning.warning-index _ (string_bytes c.args.text.now)
          (string_bytes c.loop-warning.text) (string_bytes c.if-is_told.text) c.loop-warning-test.true (λ h. both_ways _ h (sym c.is_told.ensures ∙ w.if-is_told.false)) (ap string_bytes w.text-is) c.loop-warning.invariant
    ]

pub returns : goal.returns
returns c =
    told_to_end (λ w. is_told w (file_line_view c.args.line.now) ≡ true)
    (λ w. warning_line c.args.front.now c.args.line.now.number (line_warning_text w)) LINE_WARNINGS c.loop-warning.warning-index (string_bytes c.args.text.now)
    (string_bytes c.loop-warning.text) c.loop-warning-test.false c.loop-warning.invariant
