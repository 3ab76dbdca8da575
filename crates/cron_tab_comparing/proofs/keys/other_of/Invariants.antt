use Rattle.std.proofs.Common.{◌≡◌, drop, map}
use Rattle.std.specs.Prelude.{filter, slice_get}
use Rattle.cron_tab_comparing.specs.Entries.{view}
use Rattle.cron_tab_comparing.specs.Keys.{other_of, same}
use Rattle.cron_tab_comparing.proofs.keys.other_of.Given as goal

-- among those that are left it stands behind so many that run the same
abbrev pub invariant-loop-other : goal.invariant-loop-other
invariant-loop-other l =
    slice_get (filter (same (view l.one)) (map view (drop l.other-index l.others))) l.left
    ≡ other_of (map view l.others) (map view l.before) (view l.one)
