use Rattle.std.proofs.Common.{sym, ◌∙◌}
use Rattle.cron_answers.proofs.expression.read_own.Goals as goal

pub fault_of-requires : goal.fault_of-requires
fault_of-requires c = c.read_into.ensures.nothing c.if-read_into.false

pub returns : goal.returns
returns c = (c.requires, c.read_into.ensures.nothing c.if-read_into.false, sym c.has_words.ensures ∙ c.if-has_words.false)
