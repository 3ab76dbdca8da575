use Rattle.std.proofs.Common.{◌&&◌, ◌-◌, refl, ap, arith}
use Rattle.cron_bits.proofs.WordLemmas.{bit_and_test}
use Rattle.cron_units.specs.Units.{FieldSet, days_of_month}
use Rattle.cron_unions.proofs.MemberLemmas.{made_of_two}
use Rattle.cron_unions.proofs.members.common_days.Goals as goal

pub returns-clause-numbers : goal.returns-clause-numbers
returns-clause-numbers c =
    made_of_two days_of_month (λ a b. a && b) _ _ _ _ _ _ (omega arith) refl (ap (λ (s : FieldSet). s.ordinals) c.days_from_bits.ensures)
    c.bits_of_days.ensures.set c.bits_of_days-2.ensures.set (λ x. bit_and_test c.bits_of_days.result c.bits_of_days-2.result (x - days_of_month.least))
