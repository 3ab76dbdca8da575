-- The civil seconds that a plan leaves of a set.
use Rattle.std.specs.Prelude.{ℕ, Bool, List, Option, Some, None}
use Rattle.std.specs.List.{list_all}
use Rattle.cron_units.specs.declared.way.Way.{Way}
use Rattle.cron_time.specs.Seconds.{Seconds}
use Rattle.cron_unions.specs.Unions.{any_of}
use Rattle.cron_days.specs.declared.rule.Rule.{Rule}
use Rattle.cron_days.specs.Kinds.{allows_rule}
use Rattle.cron_days.specs.Moved.{moved}
use Rattle.cron_days.specs.Sets.{except, on_days}
use Rattle.cron_plans.specs.declared.plan.Plan.{Plan}

-- each of the rules allows the day
abbrev pub all_allow : List Rule → ℕ → Bool
all_allow rules n = list_all (λ rule. allows_rule rule n) rules

-- the civil seconds of a set on allowed days; where there is a direction, those on other days are
-- moved to an allowed one
abbrev pub by_days : Option Way → (ℕ → Bool) → Seconds → Seconds
by_days None allows s = on_days s allows
by_days (Some way) allows s = moved way allows s

-- what the plan leaves of a set: first what it leaves out goes, and then its rules of days decide
abbrev pub planned : Plan → Seconds → Seconds
planned p s = by_days p.moves (all_allow p.days.now) (except s (any_of p.without.now))

-- what a plan leaves of a set, which is all of it without a plan
abbrev pub planned_by : Option Plan → Seconds → Seconds
planned_by None s = s
planned_by (Some p) s = planned p s
