use Rattle.std.proofs.Common.{◌≡◌, ℕ, ◌+◌, ◌<◌}
use Rattle.jiff_tz.specs.Tzif.{transition_at}
use Rattle.cron_c.proofs.era_table.has_double_transition.Given as goal

-- none of the transitions so far lies at the second of the one before it
abbrev pub invariant-loop-at : goal.invariant-loop-at
invariant-loop-at l = (i : ℕ) → i + 1 < l.at → ¬ ((transition_at l.table i).second ≡ (transition_at l.table (i + 1)).second)
