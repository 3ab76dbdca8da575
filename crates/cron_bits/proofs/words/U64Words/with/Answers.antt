use Rattle.std.proofs.Common.{◌*◌, ◌%◌, ◌^◌, arith}
use Rattle.std.proofs.lemmas.Nat.{or_lt}
use Rattle.cron_bits.proofs.WordLemmas.{bit_with}
use Rattle.cron_bits.proofs.words.U64Words.with.Goals as goal

pub returns-clause-fit : goal.returns-clause-fit
returns-clause-fit c = or_lt 64 c.args.self (1 * 2 ^ c.args.place % 2 ^ 64) c.requires.fit (omega arith)

pub returns-clause-bits : goal.returns-clause-bits
returns-clause-bits c = λ k. bit_with c.args.self c.args.place k c.requires.within
