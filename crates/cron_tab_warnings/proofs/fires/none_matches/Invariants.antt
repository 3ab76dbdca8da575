use Rattle.std.proofs.Common.{◌≡◌, ◌<◌, ℕ, drop}
use Rattle.cron_moments.specs.Civil.{civil, seconds_in_range}
use Rattle.cron_tabs.specs.DayRule.{matches_one}
use Rattle.cron_tab_warnings.proofs.fires.none_matches.Given as goal

abbrev pub invariant-loop-fields : goal.invariant-loop-fields
invariant-loop-fields l = (c : ℕ) → c < seconds_in_range → matches_one (drop l.fields-index l.schedules) (civil c) ≡ matches_one l.schedules (civil c)
