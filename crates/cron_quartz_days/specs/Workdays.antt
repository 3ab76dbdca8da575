-- When the forms of Quartz that name a workday run.
use Rattle.std.specs.Prelude.{◌≤◌, ◌<◌, ◌+◌, ◌-◌, ℕ, ℤ}
use Rattle.jiff_core.specs.declared.civil.date.Date.{Date}
use Rattle.jiff_core.specs.Calendar.{days_in_month}
use Rattle.cron_quartz.specs.Days.{nearest_workday, last_workday}
use Rattle.cron_quartz_days.specs.Runs.{RunsOn, weekday_in}

-- the day of the month is a workday: from Monday, 2, to Friday, 6
abbrev pub IsWorkday : ℤ → ℕ → ℕ → Type 0
IsWorkday year month day = (2 ≤ weekday_in year month day) × (weekday_in year month day ≤ 6)

abbrev pub distance : ℕ → ℕ → ℕ
distance a b = (a - b) + (b - a)

-- the month has an n-th day, and d is a workday of it that is as near to that day as any other
pub record IsNearestWorkday (n : ℕ) (d : Date) : Type 0 where
  pub some : 1 ≤ n
  pub among : n ≤ days_in_month d.year d.month
  pub workday : IsWorkday d.year d.month d.day
  pub nearest : (day : ℕ) → 1 ≤ day → day ≤ days_in_month d.year d.month → IsWorkday d.year d.month day → distance n d.day ≤ distance n day

abbrev pub NearestWorkdayRuns : Type 0
NearestWorkdayRuns = (n : ℕ) → RunsOn (nearest_workday n) (IsNearestWorkday n)

-- d is a workday, and no later day of its month is one
pub record IsLastWorkday (d : Date) : Type 0 where
  pub workday : IsWorkday d.year d.month d.day
  pub last : (day : ℕ) → d.day < day → day ≤ days_in_month d.year d.month → IsWorkday d.year d.month day → ⊥

abbrev pub LastWorkdayRuns : Type 0
LastWorkdayRuns = RunsOn (last_workday 0) IsLastWorkday

-- `L-3W` runs on exactly the workday nearest to the day that k more days of its month follow
abbrev pub NearLastRuns : Type 0
NearLastRuns = (k : ℕ) → RunsOn (last_workday k) (λ d. IsNearestWorkday (days_in_month d.year d.month - k) d)
