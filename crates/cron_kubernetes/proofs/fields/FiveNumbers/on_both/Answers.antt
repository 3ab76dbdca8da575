use Rattle.std.proofs.Common.{◌∙◌, refl, ap}
use Rattle.cron_units.specs.Units as units
use Rattle.cron_units.specs.Units.{unmarked}
use Rattle.cron_crontab.specs.declared.field.Field.TheVariants.{Minute, Hour, DayOfMonth, Month}
use Rattle.cron_kubernetes.proofs.FieldLemmas.{set_bits, set_weekdays}
use Rattle.cron_kubernetes.proofs.fields.FiveNumbers.on_both.Goals as goal

pub returns : goal.returns
returns c = λ five keeps.
    let kept = c.args.self.now in
    let minutes = c.from_bits.ensures ∙ set_bits units.minutes Minute five.minute kept.minute refl keeps.minute in
    let hours = c.from_bits-2.ensures ∙ set_bits units.hours Hour five.hour kept.hour refl keeps.hour in
    let days = c.days_from_bits.ensures ∙ ap unmarked (set_bits units.days_of_month DayOfMonth five.day_of_month kept.day_of_month refl keeps.day_of_month) in
    let months = c.from_bits-3.ensures ∙ set_bits units.months Month five.month kept.month refl keeps.month in
    let week = c.from_bits-4.ensures ∙ set_weekdays five.day_of_week kept.day_of_week keeps.day_of_week in
    rw (c.only.ensures.members, minutes, hours, days, months, week, c.whole.ensures.members) refl
