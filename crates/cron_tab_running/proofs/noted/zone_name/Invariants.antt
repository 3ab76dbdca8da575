use Rattle.std.proofs.Common.{◌≡◌, drop}
use Rattle.cron_tab_running.specs.Noted.{zone_name}
use Rattle.cron_tab_running.proofs.noted.zone_name.Given as goal

-- the names that are left name what all of them name
abbrev pub invariant-loop-named : goal.invariant-loop-named
invariant-loop-named l = zone_name (drop l.named-index l.names) l.zone ≡ zone_name l.names l.zone
