use Rattle.std.proofs.Common.{Some, ap, sym, ◌∙◌}
use Rattle.cron_time.proofs.Walks.ResumeLemmas.{same_reading}
use Rattle.cron_time.proofs.walk.resume.is_later.Goals as goal

pub returns-then-eq : goal.returns-then-eq
returns-then-eq c = ap Some (same_reading _ _ (sym c.eq.ensures ∙ c.if-eq.true))

pub returns-then-eq-2 : goal.returns-then-eq-2
returns-then-eq-2 c = c.in_ok-second.was ∙ ap Some (same_reading _ _ (sym c.eq-2.ensures ∙ c.if-eq-2.true))
