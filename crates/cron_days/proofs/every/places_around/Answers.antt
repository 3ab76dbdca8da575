use Rattle.std.proofs.Common.{◌+◌, ◌-◌, ◌%◌, refl, arith}
use Rattle.cron_days.proofs.StepLemmas.{at_step, between_steps}
use Rattle.cron_days.proofs.every.places_around.Goals as goal

pub returns-then-past-eq0-clause-alike : goal.returns-then-past-eq0-clause-alike
returns-then-past-eq0-clause-alike c = λ x low high.
    at_step c.args.count (omega arith) c.args.anchor c.args.place x c.if-past-eq0.true (omega arith)

pub returns-clause-alike : goal.returns-clause-alike
returns-clause-alike c = λ x low high.
    between_steps c.args.count (omega arith) c.args.anchor c.args.place x ((c.args.place + c.args.count - c.args.anchor % c.args.count) % c.args.count) refl
    (omega (arith, c.if-past-eq0.false)) (omega (arith, c.saturating_sub.ensures)) high
