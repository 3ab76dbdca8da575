use Rattle.std.proofs.Common.{rules}
use Rattle.cron_bits.proofs.WordLemmas.{bit_to, bit_to_past}
use Rattle.cron_bits.proofs.words.U64Words.below.Goals as goal

pub returns-then-place-lt64-clause-bits : goal.returns-then-place-lt64-clause-bits
returns-then-place-lt64-clause-bits c = λ k. bit_to c.args.self c.args.place k c.if-place-lt64.true

pub returns-else-place-lt64-clause-bits : goal.returns-else-place-lt64-clause-bits
returns-else-place-lt64-clause-bits c = λ k. bit_to_past c.args.self c.args.place k c.if-place-lt64.false

pub returns-then-place-lt64-clause-fit : goal.returns-then-place-lt64-clause-fit
returns-then-place-lt64-clause-fit c = search rules

pub returns-else-place-lt64-clause-fit : goal.returns-else-place-lt64-clause-fit
returns-else-place-lt64-clause-fit c = search rules
