use Rattle.std.proofs.Common.{◌-◌}
use Rattle.cron_bits.specs.Words.{has_bit}
use Rattle.cron_units.specs.Units as units
use Rattle.cron_unions.proofs.CoverLemmas.{has_all_by, kept_bits, same_words}
use Rattle.cron_unions.proofs.covering.has_all_days.Goals as goal

pub returns-clause-days : goal.returns-clause-days
returns-clause-days c = λ same.
    let word = c.bits_of_days-word.result in
    has_all_by units.days_of_month (λ x. has_bit word (x - 1)) (has_bit word) (has_bit c.bits_of_days.result) c.args.other.now.ordinals c.args.days.now.ordinals
    c.bits_of_days-word.ensures.set c.bits_of_days-word.ensures.bits c.bits_of_days.ensures.bits
    (λ k. kept_bits word c.bits_of_days.result k (same_words _ _ same))
