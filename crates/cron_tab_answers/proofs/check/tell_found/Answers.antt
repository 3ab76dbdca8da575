use Rattle.std.proofs.Common.{◌≡◌, ◌++◌, ap, sym, ◌∙◌, arith}
use Rattle.std.specs.String.{string_bytes}
use Rattle.cron_tab_context.specs.Messages.{context_text}
use Rattle.cron_tab_context.specs.declared.found.Found.{Found}
use Rattle.cron_tab_answers.specs.Checks.{warning_line}
use Rattle.cron_replies.proofs.ToldLemmas.{begun, passed_on, told_on, told_to_end}
use Rattle.cron_tab_answers.proofs.check.tell_found.Goals as goal
use Rattle.cron_tab_answers.proofs.check.tell_found.Goals.{then-found-number+in_ok-writeln, else-found-number}

pub loop-found-init : goal.loop-found-init
loop-found-init c =
    begun (λ f. f.line ≡ c.args.number) (λ f. warning_line c.args.wanted.now.front.now c.args.number (context_text f.warning)) c.args.wanted.now.found.now
    (string_bytes c.args.text.now)

pub loop-found-preserved : goal.loop-found-preserved
loop-found-preserved c =
    elim c.if-found-number.branch [
      | then-found-number+in_ok-writeln w ↦
          let here : c.found-item.result.line ≡ c.args.number = omega (arith, w.if-found-number.true) in
          told_on (λ f. f.line ≡ c.args.number) (λ f. warning_line c.args.wanted.now.front.now c.args.number (context_text f.warning)) c.args.wanted.now.found.now
          c.loop-found.found-index c.found-item.result (string_bytes c.args.text.now) (string_bytes c.loop-found.text) (string_bytes c.if-found-number.text)
          c.loop-found-test.true (ap (λ (f : Found). f.line) (sym c.found-item.is) ∙ here)
          (ap string_bytes w.text-is
          ∙ (w.in_ok-writeln.ensures.bytes
          ∙ ap (λ (f : Found). string_bytes c.loop-found.text ++ warning_line c.args.wanted.now.front.now c.args.number (context_text f.warning)) c.found-item.is))
          c.loop-found.invariant
      | else-found-number w ↦
          passed_on (λ f. f.line ≡ c.args.number) (λ f. warning_line c.args.wanted.now.front.now c.args.number (context_text f.warning)) c.args.wanted.now.found.now
          c.loop-found.found-index c.found-item.result (string_bytes c.args.text.now) (string_bytes c.loop-found.text) (string_bytes c.if-found-number.text)
          c.loop-found-test.true (λ h. omega (arith, w.if-found-number.false, ap (λ (f : Found). f.line) c.found-item.is ∙ h)) (ap string_bytes w.text-is)
          c.loop-found.invariant
    ]

pub returns : goal.returns
returns c =
    told_to_end (λ f. f.line ≡ c.args.number) (λ f. warning_line c.args.wanted.now.front.now c.args.number (context_text f.warning)) c.args.wanted.now.found.now
    c.loop-found.found-index (string_bytes c.args.text.now) (string_bytes c.loop-found.text) c.loop-found-test.false c.loop-found.invariant
