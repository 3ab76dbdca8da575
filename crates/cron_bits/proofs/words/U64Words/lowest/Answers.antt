use Rattle.std.proofs.Common.{rules}
use Rattle.cron_bits.proofs.WordLemmas.{lowest_bit}
use Rattle.cron_bits.proofs.words.U64Words.lowest.Goals as goal

pub returns-else-self-eq0 : goal.returns-else-self-eq0
returns-else-self-eq0 c = lowest_bit c.args.self c.if-self-eq0.false c.requires

pub returns-then-self-eq0 : goal.returns-then-self-eq0
returns-then-self-eq0 c = search rules
