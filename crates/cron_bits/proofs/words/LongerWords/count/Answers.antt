use Rattle.std.proofs.Common.{sym, rules}
use Rattle.cron_bits.proofs.LongerLemmas.{then_count}
use Rattle.cron_bits.specs.Words.{has_bit}
use Rattle.cron_bits.proofs.words.LongerWords.count.Goals as goal

pub returns-clause-value : goal.returns-clause-value
returns-clause-value g c =
    rw (c.count.ensures.value, c.count-2.ensures.value) (sym (then_count (has_bit c.args.self.low) (g.R.Words.has c.args.self.rest) g.R.Words.size))

pub returns-clause-within : goal.returns-clause-within
returns-clause-within c = search rules
