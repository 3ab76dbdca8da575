use Rattle.std.proofs.Common.{ap, sym, ◌∙◌}
use Rattle.cron_moments.specs.MomentText.{moment_text}
use Rattle.cron_dues.proofs.TextLemmas.{past-is, plain-is}
use Rattle.cron_dues.proofs.text.text_of.Goals as goal

pub returns-then-seconds_past-eq0 : goal.returns-then-seconds_past-eq0
returns-then-seconds_past-eq0 c =
    plain-is c.args.fire.now c.as_slice.result.now c.new-text.result.items _ c.new-text.ensures
    (c.as_slice.ensures.value ∙ c.text_of.ensures.text ∙ ap moment_text c.shown_moment.ensures) c.push_bytes.ensures.items
    (sym c.seconds_past.ensures.value ∙ c.if-seconds_past-eq0.true)

pub returns : goal.returns
returns c =
    past-is c.args.fire.now c.as_slice.result.now c.new-text.result.items _ _ c.new-text.ensures
    (c.as_slice.ensures.value ∙ c.text_of.ensures.text ∙ ap moment_text c.shown_moment.ensures) c.push_bytes.ensures.items c.push_nominal.ensures
    (λ none. c.if-seconds_past-eq0.false (c.seconds_past.ensures.value ∙ none))
