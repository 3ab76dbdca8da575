use Rattle.std.proofs.Common.{List, ℕ, sym, subst, rules}
use Rattle.std.specs.String.{string_bytes}
use Rattle.cron_text.specs.Meaning.{Means, MeansNothing}
use Rattle.cron.proofs.schedule.expression.Schedule.keep.Goals as goal

pub returns-then-not-read_into-clause-nothing : goal.returns-then-not-read_into-clause-nothing
returns-then-not-read_into-clause-nothing c = subst MeansNothing c.as_str.ensures.value (c.read_into.ensures.nothing c.if-not-read_into.true)

pub new-requires : goal.new-requires
new-requires c =
    subst (λ (t : List ℕ). Means t c.read_into.new.fields) c.as_str.ensures.value (c.read_into.ensures.sets c.if-not-read_into.false)

pub returns-clause-means : goal.returns-clause-means
returns-clause-means c =
    subst (Means (string_bytes c.args.text)) (sym c.new.ensures.sets)
    (subst (λ (t : List ℕ). Means t c.read_into.new.fields) c.as_str.ensures.value (c.read_into.ensures.sets c.if-not-read_into.false))

pub returns-then-not-read_into-clause-means : goal.returns-then-not-read_into-clause-means
returns-then-not-read_into-clause-means c = search rules

pub returns-then-not-read_into-clause-source : goal.returns-then-not-read_into-clause-source
returns-then-not-read_into-clause-source c = search rules

pub returns-clause-source : goal.returns-clause-source
returns-clause-source c = search rules
