use Rattle.std.proofs.Common.{◌≡◌, map, take}
use Rattle.cron_agenda.specs.Fires.{instant}
use Rattle.cron_tab_collisions.proofs.pairs.seconds_of.Given as goal

abbrev pub invariant-loop-fire : goal.invariant-loop-fire
invariant-loop-fire l = l.seconds.items ≡ map instant (take l.fire-index l.fires)
