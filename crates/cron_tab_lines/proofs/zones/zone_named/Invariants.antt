use Rattle.std.proofs.Common.{◌≡◌, drop}
use Rattle.cron_tab_lines.specs.Zones.{zone_named}
use Rattle.cron_tab_lines.proofs.zones.zone_named.Given as goal

-- the names that are left name what all of them name
abbrev pub invariant-loop-named : goal.invariant-loop-named
invariant-loop-named l = zone_named (drop l.named-index l.names) l.value ≡ zone_named l.names l.value
