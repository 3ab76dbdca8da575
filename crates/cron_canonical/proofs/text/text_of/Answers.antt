use Rattle.std.proofs.Common.{◌≡◌, ◌++◌, ◌∙◌, [], List, ℕ, sym, ap}
use Rattle.cron_units.specs.Sets.{Sets}
use Rattle.cron_canonical.specs.Short.{sets_text}
use Rattle.cron_canonical.proofs.DayLemmas.{field_on}
use Rattle.cron_canonical.proofs.text.text_of.Goals as goal

-- the text of other sets that are the same, begun with nothing
same_sets : (begun text : List ℕ) (s t : Sets) → t ≡ s → begun ≡ [] → text ≡ begun ++ sets_text s → text ≡ sets_text t
same_sets begun text s t e empty h = h ∙ (ap (λ (x : List ℕ). x ++ sets_text s) empty ∙ ap sets_text (sym e))

pub returns : goal.returns
unfolding sets_text
returns c =
    let f = c.fields.inside in
    let sets : Sets = record {
      seconds = f.seconds;
      minutes = f.minutes;
      hours = f.hours;
      days_of_month = f.days_of_month;
      months = f.months;
      days_of_week = f.days_of_week;
      years = f.years;
    } in
    same_sets c.new-text.result.items c.push_numbers.new.text.items sets c.args.fields.now (sym c.fields.view_is) c.new-text.ensures
    (field_on _ _ _ _ _ c.push_field.ensures.items (field_on _ _ _ _ _ c.push_field-2.ensures.items (field_on _ _ _ _ _ c.push_field-3.ensures.items
    (field_on _ _ _ _ _ c.push_days.ensures.items (field_on _ _ _ _ _ c.push_field-4.ensures.items
    (field_on _ _ _ _ _ c.push_field-5.ensures.items c.push_numbers.ensures.items))))))
