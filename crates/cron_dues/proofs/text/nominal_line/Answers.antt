use Rattle.std.proofs.Common.{◌≤◌, length, List, ℕ, sym, subst}
use Rattle.cron_dues.proofs.TextLemmas.{nineteen}
use Rattle.cron_dues.proofs.text.nominal_line.Goals as goal

pub returns-clause-text : goal.returns-clause-text
returns-clause-text c = rw (sym c.nominal_moment.ensures) c.text_of.ensures.text

pub returns-clause-long : goal.returns-clause-long
returns-clause-long c =
    subst (λ (l : List ℕ). 19 ≤ length l) (sym c.text_of.ensures.text) (nineteen c.nominal_moment.result)
