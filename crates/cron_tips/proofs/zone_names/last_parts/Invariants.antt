use Rattle.std.proofs.Common.{◌≡◌, map, take}
use Rattle.cron_tips.specs.ZoneNames.{last_part}
use Rattle.cron_tips.proofs.zone_names.last_parts.Given as goal

abbrev pub invariant-loop-name : goal.invariant-loop-name
invariant-loop-name l = map (λ p. p.now) l.parts.items ≡ map last_part (map (λ n. n.now) (take l.name-index l.names))
