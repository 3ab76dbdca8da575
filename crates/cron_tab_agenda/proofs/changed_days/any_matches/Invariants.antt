use Rattle.std.proofs.Common.{◌≡◌, ◌≤◌, ◌<◌, ℕ, drop}
use Rattle.cron_moments.specs.Civil.{civil}
use Rattle.cron_unions.specs.Unions.{matches_any}
use Rattle.cron_tab_agenda.proofs.changed_days.any_matches.Given as goal

abbrev pub invariant-loop-fields : goal.invariant-loop-fields
invariant-loop-fields l =
    (c : ℕ) → l.first ≤ c → c < l.end → matches_any (drop l.fields-index l.schedules) (civil c) ≡ matches_any l.schedules (civil c)
