use Rattle.std.proofs.Common.{true, ◌≡◌, sym, ap, ◌∙◌}
use Rattle.cron_units.specs.Units.{FieldSet}
use Rattle.cron_comparing.proofs.LengthLemmas.{marked_days}
use Rattle.cron_comparing.proofs.lengths.days_of.Goals as goal

pub returns-then-last_day-clause-numbers : goal.returns-then-last_day-clause-numbers
returns-then-last_day-clause-numbers c = λ d.
    let marked : c.args.days.now.last_day ≡ true = sym c.last_day.ensures ∙ c.if-last_day.true in
    rw marked (marked_days _ _ _ _ c.args.length c.requires.0 c.requires.1 (ap (λ (s : FieldSet). s.ordinals) c.days_from_bits.ensures)
    c.bits_of_days-numbered.ensures.set c.with.ensures.bits d)
