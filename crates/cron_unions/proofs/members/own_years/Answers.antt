use Rattle.std.proofs.Common.{◌&&◌, not, ◌-◌, refl}
use Rattle.cron_unions.proofs.MemberLemmas.{made_of_two, three_of_two}
use Rattle.cron_unions.proofs.members.own_years.Goals as goal

pub returns : goal.returns
returns g c =
    let a = c.three-first.result in
    let b = c.three-other_first.result in
    made_of_two g.U.UnitTable.unit (λ a b. a && not b) _ _ _ _ _ _ g.met.U.UnitTable.is_unit.ordered refl c.from_three.ensures c.three-first.ensures.set
    c.three-other_first.ensures.set
    (λ x. three_of_two (λ a b. a && not b) a.0 b.0 _ a.1 b.1 _ a.2 b.2 _ c.own_bits.ensures c.own_bits-2.ensures c.own_bits-3.ensures
    (x - g.U.UnitTable.unit.least))
