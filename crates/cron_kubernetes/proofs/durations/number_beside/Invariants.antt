use Rattle.std.proofs.Common.{◌≡◌, drop}
use Rattle.cron_units.specs.Tables.{ordinals_view}
use Rattle.cron_kubernetes.specs.Durations.{unit_in}
use Rattle.cron_kubernetes.proofs.durations.number_beside.Given as goal

abbrev pub invariant-loop-name : goal.invariant-loop-name
invariant-loop-name l = unit_in (ordinals_view (drop l.name-index l.table)) l.sought ≡ unit_in (ordinals_view l.table) l.sought
