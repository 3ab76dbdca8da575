use Rattle.std.proofs.Common.{◌≡◌, ℕ, List, ap, ◌∙◌, rules}
use Rattle.std.specs.Prelude.{length}
use Rattle.cron_dues.specs.DueText.{due_text}
use Rattle.cron_c.specs.Buffers.{laid_over}
use Rattle.cron_c.proofs.due_text.format_due.Goals as goal

pub returns : goal.returns
returns c =
    let same : c.as_slice-bytes.result.now ≡ due_text c.in-Some.fire = c.as_slice-bytes.ensures.value ∙ c.text_of-shown.ensures in
    (c.in-Some.fire, c.in-Some.ensures, c.put.ensures ∙ ap (λ (l : List ℕ). laid_over 0 l c.args.text.now) same, ap length same)

pub returns-in_default : goal.returns-in_default
returns-in_default c = search rules
