-- What the reader's inner functions say of forms of days. Of these words a public contract cites `AreDays`
-- alone.
use Rattle.std.specs.Prelude.{◌≤◌, ◌-◌, ℕ, List, ⊤}
use Rattle.cron_units.specs.Sets.{Sets}
use Rattle.cron_quartz.specs.Days.{before_end, in_last_week, near_day}
use Rattle.cron_quartz.specs.declared.days.Days.{Days}
use Rattle.cron_quartz.specs.declared.days.Days.TheVariants as days
use Rattle.cron_quartz.specs.declared.forms.Counted.{Counted}
use Rattle.cron_quartz.specs.declared.forms.Counted.TheVariants.{BeforeLast, NearestWorkday, LastWorkday, LastWeekday}

abbrev pub IsWeekday : ℕ → Type 0
IsWeekday w = (1 ≤ w) × (w ≤ 7)

-- the numbers of a form are within the bounds that the reader checks
abbrev pub AreDays : Days → Type 0
AreDays (days.Dates set) = ⊤
AreDays (days.BeforeLast k) = k ≤ 30
AreDays (days.NearestWorkday n) = (1 ≤ n) × (n ≤ 31)
AreDays (days.LastWorkday k) = k ≤ 30
AreDays (days.Weekdays set) = ⊤
AreDays (days.LastWeekday w) = IsWeekday w
AreDays (days.NthWeekday w n) = IsWeekday w × (1 ≤ n) × (n ≤ 5)

abbrev pub IsLength : ℕ → Type 0
IsLength n = (28 ≤ n) × (n ≤ 31)

-- the schedules of a form for months of one length
abbrev pub counted : Counted → ℕ → Sets → List Sets
counted (BeforeLast k) = before_end k
counted (NearestWorkday n) = near_day n
counted (LastWorkday k) = λ length. near_day (length - k) length
counted (LastWeekday w) = in_last_week w

abbrev pub IsCounted : Counted → Type 0
IsCounted (LastWeekday w) = IsWeekday w
IsCounted _ = ⊤
