use Rattle.std.proofs.Common.{List, ℕ, sym, subst, rules}
use Rattle.cron_text.specs.Meaning.{Means}
use Rattle.cron.proofs.schedule.expression.Schedule.clone.Goals as goal

pub invariant_of-result : goal.invariant_of-result
invariant_of-result c =
    subst (λ (t : List ℕ). Means t c.self.inside.fields) (sym c.in_ok-clone.ensures.cases) c.self.invariant

pub returns-in_err-clone : goal.returns-in_err-clone
returns-in_err-clone c = search rules

pub returns : goal.returns
returns c = search rules
