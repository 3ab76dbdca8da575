use Rattle.std.proofs.Common.{rules}
use Rattle.cron_bits.proofs.WordLemmas.{bit_count}
use Rattle.cron_bits.proofs.words.U64Words.count.Goals as goal

pub returns-clause-value : goal.returns-clause-value
returns-clause-value c = bit_count c.args.self c.requires.fit

pub returns-clause-within : goal.returns-clause-within
returns-clause-within c = search rules
