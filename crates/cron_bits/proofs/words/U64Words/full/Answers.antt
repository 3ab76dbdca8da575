use Rattle.std.proofs.Common.{rules}
use Rattle.cron_bits.proofs.WordLemmas.{bit_full}
use Rattle.cron_bits.proofs.words.U64Words.full.Goals as goal

pub returns-clause-bits : goal.returns-clause-bits
returns-clause-bits c = bit_full

pub returns-clause-fit : goal.returns-clause-fit
returns-clause-fit c = search rules
