use Rattle.std.proofs.Common.{◌&&◌, ◌-◌, refl}
use Rattle.cron_bits.proofs.WordLemmas.{bit_and_test}
use Rattle.cron_unions.proofs.MemberLemmas.{made_of_two}
use Rattle.cron_unions.proofs.members.common_members.Goals as goal

pub returns : goal.returns
returns g c =
    made_of_two g.U.UnitTable.unit (λ a b. a && b) _ _ _ _ _ _ g.met.U.UnitTable.is_unit.ordered refl c.from_bits.ensures c.bits.ensures.set
    c.bits-2.ensures.set (λ x. bit_and_test c.bits.result c.bits-2.result (x - g.U.UnitTable.unit.least))
