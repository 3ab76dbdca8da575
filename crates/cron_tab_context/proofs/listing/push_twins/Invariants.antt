use Rattle.std.proofs.Common.{◌≡◌, ◌++◌, drop, map}
use Rattle.cron_tab_context.specs.Found.{found_twin}
use Rattle.cron_tab_context.proofs.listing.push_twins.Given as goal

-- what was found so far, with the twins that are left, is all of them
abbrev pub invariant-loop-twin : goal.invariant-loop-twin
invariant-loop-twin l = l.found.items ++ map found_twin (drop l.twin-index l.twins) ≡ l.initial.found.items ++ map found_twin l.twins
