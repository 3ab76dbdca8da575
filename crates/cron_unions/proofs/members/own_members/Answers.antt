use Rattle.std.proofs.Common.{◌&&◌, not, ◌-◌, refl}
use Rattle.cron_unions.proofs.MemberLemmas.{made_of_two}
use Rattle.cron_unions.proofs.members.own_members.Goals as goal

pub returns : goal.returns
returns g c =
    made_of_two g.U.UnitTable.unit (λ a b. a && not b) _ _ _ _ _ _ g.met.U.UnitTable.is_unit.ordered refl c.from_bits.ensures c.bits.ensures.set
    c.bits-2.ensures.set (λ x. c.own_bits.ensures (x - g.U.UnitTable.unit.least))
