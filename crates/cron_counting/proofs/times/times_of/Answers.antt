use Rattle.std.proofs.Common.{◌+◌, ap, ◌∙◌}
use Rattle.cron_units.specs.Sets.{Sets}
use Rattle.cron_units.specs.Units.{contains}
use Rattle.cron_counting.proofs.TimeLemmas.{fits-one}
use Rattle.cron_counting.proofs.times.times_of.Goals as goal

pub returns : goal.returns
returns c =
    let same = c.fields.view_is in
    fits-one _ _ _ c.args.fields.now (λ k. c.bits.ensures.bits k ∙ ap (λ (t : Sets). contains t.hours (0 + k)) same)
    (λ k. c.bits-2.ensures.bits k ∙ ap (λ (t : Sets). contains t.minutes (0 + k)) same)
    (λ k. c.bits-3.ensures.bits k ∙ ap (λ (t : Sets). contains t.seconds (0 + k)) same)
