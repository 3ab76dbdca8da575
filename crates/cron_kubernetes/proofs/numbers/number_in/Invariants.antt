use Rattle.std.proofs.Common.{◌≡◌, drop}
use Rattle.cron_units.specs.Tables.{ordinals_view}
use Rattle.cron_units.specs.Units.{named_in}
use Rattle.cron_kubernetes.proofs.numbers.number_in.Given as goal

abbrev pub invariant-loop-name : goal.invariant-loop-name
invariant-loop-name l = named_in (ordinals_view (drop l.name-index l.names)) l.sought ≡ named_in (ordinals_view l.names) l.sought
