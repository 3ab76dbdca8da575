use Rattle.std.proofs.Common.{ℕ, drop, map}
use Rattle.std.specs.Prelude.{Option}
use Rattle.cron_tab_comparing.specs.Entries.{view}
use Rattle.cron_tab_comparing.specs.Twins.{IsTwinAmong}
use Rattle.cron_tab_comparing.proofs.twins.twin_among.Given as goal

-- a twin among those that are left is one among all
abbrev pub invariant-loop-entry : goal.invariant-loop-entry
invariant-loop-entry l =
    (found : Option ℕ) → IsTwinAmong (map view (drop l.entry-index l.entries)) (view l.one) found → IsTwinAmong (map view l.entries) (view l.one) found
