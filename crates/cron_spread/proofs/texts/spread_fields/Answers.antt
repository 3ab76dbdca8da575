use Rattle.std.proofs.Common.{ℕ, List, [], ◌∷◌, ◌++◌, ap, ◌∙◌}
use Rattle.cron_crontab.specs.declared.field.Field.TheVariants.{Minute, Hour, DayOfMonth, Month, DayOfWeek}
use Rattle.cron_spread.specs.Texts.{fields_text, five}
use Rattle.cron_spread.proofs.FieldLemmas.{one_field}
use Rattle.cron_spread.proofs.texts.spread_fields.Goals as goal

pub returns : goal.returns
returns c =
    let name = c.args.name.now in
    let text = c.args.text.now in
    let end = c.extend_from_slice.new.self.items in
    one_field name Minute (Hour ∷ DayOfMonth ∷ Month ∷ DayOfWeek ∷ []) text c.in_ok-hours.hours.now c.new-made.result.items c.push_next.new.made.items end
    c.in_ok-hours.ensures.made c.in_ok-hours.ensures.rest
    (one_field name Hour (DayOfMonth ∷ Month ∷ DayOfWeek ∷ []) c.in_ok-hours.hours.now c.in_ok-days.days.now c.push_next.new.made.items c.push_next-2.new.made.items end
    c.in_ok-days.ensures.made c.in_ok-days.ensures.rest
    (one_field name DayOfMonth (Month ∷ DayOfWeek ∷ []) c.in_ok-days.days.now c.in_ok-months.months.now c.push_next-2.new.made.items c.push_next-3.new.made.items end
    c.in_ok-months.ensures.made c.in_ok-months.ensures.rest
    (one_field name Month (DayOfWeek ∷ []) c.in_ok-months.months.now c.in_ok-weekdays.weekdays.now c.push_next-3.new.made.items c.push_next-4.new.made.items end
    c.in_ok-weekdays.ensures.made c.in_ok-weekdays.ensures.rest
    (one_field name DayOfWeek [] c.in_ok-weekdays.weekdays.now c.in_ok-rest.rest.now c.push_next-4.new.made.items c.push_next-5.new.made.items end
    c.in_ok-rest.ensures.made c.in_ok-rest.ensures.rest c.in_ok-extend_from_slice.ensures.items))))
    ∙ ap (λ (m : List ℕ). m ++ fields_text name five text) c.new-made.ensures.items
