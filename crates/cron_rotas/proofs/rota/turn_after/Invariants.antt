use Rattle.std.proofs.Common.{◌≡◌, ◌+◌, ◌%◌, ◌<◌, length}
use Rattle.cron_stretches.specs.Fires.{instants}
use Rattle.cron_rotas.specs.Rotas.{handovers_in}
use Rattle.cron_rotas.proofs.rota.turn_after.Given as goal

abbrev pub invariant-loop : goal.invariant-loop
invariant-loop g l = (l.person < l.people)
    × ((l.person + length l.iterator') % l.people
    ≡ (l.fn.turn.person + handovers_in (instants g.R.Rule.at (g.R.Rule.fires (g.S.CivilSeconds.has l.handovers) l.clock)) l.fn.turn.second l.to) % l.people)
