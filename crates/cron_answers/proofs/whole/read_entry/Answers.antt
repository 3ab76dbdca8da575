use Rattle.std.proofs.Common.{rules}
use Rattle.cron_answers.proofs.WholeLemmas.{has_entry}
use Rattle.cron_answers.proofs.whole.read_entry.Goals as goal

pub returns : goal.returns
returns c = has_entry c.args.text.now c.in-Ok-Entry.entry c.expression_of.result (search rules) (search rules) c.expression_of.ensures
