use Rattle.std.proofs.Common.{refl, rules}
use Rattle.cron_bits.proofs.WordLemmas.{highest_bit}
use Rattle.cron_bits.proofs.words.U64Words.highest.Goals as goal

pub returns-else-self-eq0 : goal.returns-else-self-eq0
returns-else-self-eq0 c = highest_bit c.args.self _ c.if-self-eq0.false c.requires refl

pub returns-then-self-eq0 : goal.returns-then-self-eq0
returns-then-self-eq0 c = search rules
