use Rattle.std.proofs.Common.{◌≡◌, ◌+◌, ◌≤ℤ◌, ◌-ℤ◌}
use Rattle.cron_stretches.specs.Fires.{IsInstant}
use Rattle.cron_stretches.specs.Stretches.{seconds_from}
use Rattle.cron_rotas.specs.Rotas.{turn_at}
use Rattle.cron_rotas.proofs.DutyLemmas.{duty_left}
use Rattle.cron_rotas.proofs.rota.Rota.seconds_of_duty.Given as goal

abbrev pub invariant-loop-turn : goal.invariant-loop-turn
invariant-loop-turn g l =
    IsInstant l.turn.second × (l.self.start ≤ℤ l.turn.second) × (l.turn.person ≡ turn_at l.self l.turn.second)
    × IsInstant l.initial.turn.second × (l.initial.turn.second ≤ℤ l.turn.second)
    × (l.seconds + duty_left l.self l.turn.second l.to l.person ≡ duty_left l.self l.initial.turn.second l.to l.person)

abbrev pub decreases-loop-turn : goal.decreases-loop-turn
decreases-loop-turn g l = seconds_from (l.to -ℤ l.turn.second)
