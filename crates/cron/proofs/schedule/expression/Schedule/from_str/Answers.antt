use Rattle.std.proofs.Common.{sym, subst, rules}
use Rattle.cron_text.specs.Meaning.{Means}
use Rattle.cron.proofs.schedule.expression.Schedule.from_str.Goals as goal

pub refusal-requires : goal.refusal-requires
refusal-requires c = c.read_into.ensures.nothing c.if-not-read_into.true

pub new-requires : goal.new-requires
new-requires c = rw c.in_ok-source.ensures.ok (c.read_into.ensures.sets c.if-not-read_into.false)

pub returns-clause-means : goal.returns-clause-means
returns-clause-means c = subst (Means c.args.text.now) (sym c.new.ensures.sets) (c.read_into.ensures.sets c.if-not-read_into.false)

pub returns-then-not-read_into-clause-means : goal.returns-then-not-read_into-clause-means
returns-then-not-read_into-clause-means c = search rules

pub returns-then-not-read_into-clause-source : goal.returns-then-not-read_into-clause-source
returns-then-not-read_into-clause-source c = search rules

pub returns-then-not-read_into-clause-refused : goal.returns-then-not-read_into-clause-refused
returns-then-not-read_into-clause-refused c = search rules

pub returns-in_err-source-clause-means : goal.returns-in_err-source-clause-means
returns-in_err-source-clause-means c = search rules

pub returns-in_err-source-clause-source : goal.returns-in_err-source-clause-source
returns-in_err-source-clause-source c = search rules

pub returns-in_err-source-clause-refused : goal.returns-in_err-source-clause-refused
returns-in_err-source-clause-refused c = search rules

pub returns-clause-source : goal.returns-clause-source
returns-clause-source c = search rules

pub returns-clause-refused : goal.returns-clause-refused
returns-clause-refused c = search rules
