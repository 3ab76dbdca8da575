use Rattle.std.proofs.Common.{◌∙◌}
use Rattle.cron_bits.proofs.WordLemmas.{bit_none, bit_from, bit_from_past}
use Rattle.cron_bits.proofs.words.U64Words.at_least.Goals as goal

pub returns-then-place-lt64-clause-bits : goal.returns-then-place-lt64-clause-bits
returns-then-place-lt64-clause-bits c = λ k. bit_from c.args.self c.args.place k c.if-place-lt64.true

pub returns-else-place-lt64-clause-bits : goal.returns-else-place-lt64-clause-bits
returns-else-place-lt64-clause-bits c = λ k. bit_none k ∙ bit_from_past c.args.self c.args.place k c.if-place-lt64.false
