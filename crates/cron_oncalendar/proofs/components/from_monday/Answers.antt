use Rattle.std.proofs.Common.{sym, ◌∙◌, refl}
use Rattle.cron_oncalendar.proofs.WeekdayLemmas.{with_sunday, without_sunday}
use Rattle.cron_oncalendar.proofs.components.from_monday.Goals as goal

pub returns-then-contains : goal.returns-then-contains
returns-then-contains c =
    with_sunday c.bits-word.result _ _ c.args.days.now _ refl c.bits-word.ensures.bits (sym c.contains.ensures ∙ c.if-contains.true) c.with.ensures.bits
    c.from_bits.ensures

pub returns-else-contains : goal.returns-else-contains
returns-else-contains c =
    without_sunday c.bits-word.result _ c.args.days.now _ refl c.bits-word.ensures.bits (sym c.contains.ensures ∙ c.if-contains.false) c.bits-word.ensures.set
    c.from_bits-else-contains.ensures
