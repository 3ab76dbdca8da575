use Rattle.std.proofs.Common.{◌&&◌, ◌-◌, refl}
use Rattle.cron_bits.proofs.WordLemmas.{bit_and_test}
use Rattle.cron_unions.proofs.MemberLemmas.{made_of_two, three_of_two}
use Rattle.cron_unions.proofs.members.common_years.Goals as goal

pub returns : goal.returns
returns g c =
    let a = c.three-first.result in
    let b = c.three-other_first.result in
    made_of_two g.U.UnitTable.unit (λ a b. a && b) _ _ _ _ _ _ g.met.U.UnitTable.is_unit.ordered refl c.from_three.ensures c.three-first.ensures.set
    c.three-other_first.ensures.set
    (λ x. three_of_two (λ a b. a && b) a.0 b.0 _ a.1 b.1 _ a.2 b.2 _ (bit_and_test a.0 b.0) (bit_and_test a.1 b.1) (bit_and_test a.2 b.2)
    (x - g.U.UnitTable.unit.least))
