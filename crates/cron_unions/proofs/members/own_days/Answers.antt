use Rattle.std.proofs.Common.{◌&&◌, not, ◌-◌, refl, ap, arith}
use Rattle.cron_units.specs.Units.{FieldSet, days_of_month}
use Rattle.cron_unions.proofs.MemberLemmas.{made_of_two}
use Rattle.cron_unions.proofs.members.own_days.Goals as goal

pub returns-clause-numbers : goal.returns-clause-numbers
returns-clause-numbers c =
    made_of_two days_of_month (λ a b. a && not b) _ _ _ _ _ _ (omega arith) refl (ap (λ (s : FieldSet). s.ordinals) c.days_from_bits.ensures)
    c.bits_of_days.ensures.set c.bits_of_days-2.ensures.set
    (λ x. c.own_bits.ensures (x - days_of_month.least))
