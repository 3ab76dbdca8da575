use Rattle.std.proofs.Common.{◌-◌}
use Rattle.cron_bits.specs.Words.{has_bit}
use Rattle.cron_unions.proofs.CoverLemmas.{has_all_by, kept_bits, same_words}
use Rattle.cron_unions.proofs.covering.has_all.Goals as goal

pub returns : goal.returns
returns g c = λ same.
    let word = c.bits-word.result in
    has_all_by g.U.UnitTable.unit (λ x. has_bit word (x - g.U.UnitTable.unit.least)) (has_bit word) (has_bit c.bits.result) c.args.other.now c.args.set.now
    c.bits-word.ensures.set c.bits-word.ensures.bits c.bits.ensures.bits
    (λ k. kept_bits word c.bits.result k (same_words _ _ same))
