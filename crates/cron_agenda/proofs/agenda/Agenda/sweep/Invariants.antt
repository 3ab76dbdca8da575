use Rattle.std.proofs.Common.{◌≡◌}
use Rattle.cron_agenda.proofs.agenda.Agenda.sweep.Given as goal

abbrev pub invariant-loop : goal.invariant-loop
invariant-loop g l = l.self ≡ l.fn.self
