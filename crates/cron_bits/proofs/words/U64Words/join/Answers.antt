use Rattle.std.proofs.lemmas.Nat.{or_lt}
use Rattle.cron_bits.proofs.WordLemmas.{bit_or_test}
use Rattle.cron_bits.proofs.words.U64Words.join.Goals as goal

pub returns-clause-fit : goal.returns-clause-fit
returns-clause-fit c = or_lt 64 c.args.self c.args.other c.requires.fit c.requires.other_fit

pub returns-clause-bits : goal.returns-clause-bits
returns-clause-bits c = bit_or_test c.args.self c.args.other
