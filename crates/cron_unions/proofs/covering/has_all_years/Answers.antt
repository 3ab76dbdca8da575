use Rattle.std.proofs.Common.{◌-◌}
use Rattle.cron_bits.specs.Words.{bit_of_three}
use Rattle.cron_unions.proofs.CoverLemmas.{has_all_by, kept_three, same_words}
use Rattle.cron_unions.proofs.covering.has_all_years.Goals as goal

pub returns : goal.returns
returns g c = λ same.
    let a = c.three-other_first.result in
    let b = c.three-first.result in
    has_all_by g.U.UnitTable.unit (λ x. bit_of_three a.0 a.1 a.2 (x - g.U.UnitTable.unit.least)) (bit_of_three a.0 a.1 a.2) (bit_of_three b.0 b.1 b.2) c.args.other.now c.args.set.now
    c.three-other_first.ensures.set c.three-other_first.ensures.bits c.three-first.ensures.bits
    (λ k. kept_three a.0 a.1 a.2 b.0 b.1 b.2 k c.if-other_first-first.false c.if-other_second-second.false (same_words _ _ same))
