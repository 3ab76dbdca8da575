use Rattle.std.proofs.Common.{◌≡◌, ◌≤ℤ◌, ◌<ℤ◌, ◌-ℤ◌}
use Rattle.cron_stretches.specs.Fires.{IsInstant}
use Rattle.cron_stretches.specs.Stretches.{seconds_from}
use Rattle.cron_rotas.specs.Rotas.{turn_at}
use Rattle.cron_rotas.proofs.StepLemmas.{AllOf}
use Rattle.cron_rotas.proofs.rota.Rota.shift_end.Given as goal

abbrev pub invariant-loop-end : goal.invariant-loop-end
invariant-loop-end g l =
    IsInstant l.end.second × (l.self.start ≤ℤ l.end.second) × (l.fn.turn.second ≤ℤ l.end.second) × (l.end.second ≤ℤ l.to)
    × (l.end.person ≡ turn_at l.self l.end.second) × AllOf l.self l.person l.fn.turn.second l.end.second

abbrev pub decreases-loop-end : goal.decreases-loop-end
decreases-loop-end g l = seconds_from (l.to -ℤ l.end.second)
