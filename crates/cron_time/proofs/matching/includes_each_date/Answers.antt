use Rattle.std.proofs.Common.{◌+◌, refl, ap, sym, ◌∙◌}
use Rattle.cron_units.specs.Sets.{Sets}
use Rattle.cron_units.specs.Units.{contains}
use Rattle.cron_time.proofs.Searches.EachDateLemmas.{each_date}
use Rattle.cron_time.proofs.matching.includes_each_date.Goals as goal

pub returns : goal.returns
returns c = λ years.
    let s : Sets = c.args.fields.now in
    let same = c.fields.view_is in
    each_date s (record {
      years = c.includes_each_year.ensures years;
      months = λ k less. sym (c.bits.ensures.bits k ∙ ap (λ (t : Sets). contains t.months (1 + k)) same) ∙ c.if-not-is_full-2.ensures refl k less;
      days = λ k less. sym (c.bits_of_days.ensures.bits k ∙ ap (λ (t : Sets). contains t.days_of_month.ordinals (1 + k)) same)
          ∙ c.if-not-is_full.ensures refl k less;
      week = λ k less. sym (c.bits-2.ensures.bits k ∙ ap (λ (t : Sets). contains t.days_of_week (1 + k)) same) ∙ c.if-not-is_full-3.ensures refl k less;
    })
