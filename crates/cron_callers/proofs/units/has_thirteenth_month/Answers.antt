use Rattle.std.proofs.Common.{ℕ, List, ap, ◌∙◌, arith}
use Rattle.cron.specs.Words.{contains, months}
use Rattle.cron.proofs.Callers.{contains_after}
use Rattle.cron_callers.proofs.units.has_thirteenth_month.Goals as goal

pub returns : goal.returns
returns c =
    c.includes.ensures ∙ (ap (λ (xs : List ℕ). contains xs 13) c.iter-members.ensures.set ∙ contains_after months _ 13 (omega arith) (omega arith))
