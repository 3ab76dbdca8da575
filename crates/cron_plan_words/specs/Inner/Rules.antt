-- How rules of days are added.
use Rattle.std.specs.Prelude.{◌≡◌, ◌<◌, ◌&&◌, ℕ, Bool, List}
use Rattle.cron_moments.specs.Civil.{days_in_range}
use Rattle.cron_days.specs.declared.rule.Rule.{Rule}
use Rattle.cron_plans.specs.Plans.{all_allow}

-- the rules allow what those before allow and the test passes too
abbrev pub AddsRule : (ℕ → Bool) → List Rule → List Rule → Type 0
AddsRule test old new = (n : ℕ) → n < days_in_range → all_allow new n ≡ (all_allow old n && test n)
