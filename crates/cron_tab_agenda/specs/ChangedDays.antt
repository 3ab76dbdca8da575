-- The days on which a zone's clock skips a fixed time of an entry, or shows it twice. Days are
-- numbered from 1970-01-01, and civil seconds from its midnight.
use Rattle.std.specs.Prelude.{◌≡◌, ◌<◌, ◌≤◌, ◌+◌, ◌*◌, ◌||◌, ◌↔◌, ◌++◌, ℕ, ℤ, pos, negsuc, ◌+ℤ◌, min, true, IsTrue, List, [], ◌∷◌, length, Option, Some, Result, Ok, Err, ⊤}
use Rattle.std.specs.Int.{int_div_euclid}
use Rattle.jiff_tz.specs.declared.timezone.TimeZone.{TimeZone}
use Rattle.jiff_tz.specs.Zone.{offset_at}
use Rattle.cron_units.specs.Sets.{Sets}
use Rattle.cron_moments.specs.Civil.{civil, days_in_range}
use Rattle.cron_moments.specs.Readings.{readings}
use Rattle.cron_unions.specs.Unions.{matches_any}
use Rattle.cron_fires.specs.declared.changes.ClockChanges.{ClockChanges}
use Rattle.cron_fires.specs.declared.changes.ClockChanges.TheVariants.{Once}
use Rattle.cron_tab_lines.specs.Files.{FileLine}
use Rattle.cron_tab_agenda.specs.Adding.{changes_of}
use Rattle.cron_tab_agenda.specs.Tabs.{schedules_in}
use Rattle.cron_tab_agenda.specs.declared.adding.Clock.TheVariants.{Own}
use Rattle.cron_tab_agenda.specs.declared.changed_days.ChangedDay.{ChangedDay}

-- a civil second from `first` up to but without `end` has the property P
abbrev pub HasSecond : (ℕ → Type 0) → ℕ → ℕ → Type 0
HasSecond P first end = (c : ℕ) × (first ≤ c) × (c < end) × P c

-- the civil second matches one of the schedules, and the clock skips it: it has no reading
abbrev pub IsSkippedAt : List Sets → TimeZone → ℕ → Type 0
IsSkippedAt ss z c = (matches_any ss (civil c) ≡ true) × (readings z c ≡ [])

-- the civil second matches one of the schedules, and the clock shows it twice: it has two readings
abbrev pub IsDoubledAt : List Sets → TimeZone → ℕ → Type 0
IsDoubledAt ss z c = (matches_any ss (civil c) ≡ true) × (length (readings z c) ≡ 2)

-- the clock skips a matching civil second of the day d
abbrev pub Skips : List Sets → TimeZone → ℕ → Type 0
Skips ss z d = HasSecond (IsSkippedAt ss z) (d * 86_400) ((d + 1) * 86_400)

-- the clock shows a matching civil second of the day d twice
abbrev pub Doubles : List Sets → TimeZone → ℕ → Type 0
Doubles ss z d = HasSecond (IsDoubledAt ss z) (d * 86_400) ((d + 1) * 86_400)

abbrev pub IsUnchanged : List Sets → TimeZone → ℕ → Type 0
IsUnchanged ss z d = (Skips ss z d → ⊥) × (Doubles ss z d → ⊥)

-- the record holds the date of the day d, whether a time of it is skipped, and whether one is
-- doubled; one of both is true
pub record IsChangedDay (ss : List Sets) (z : TimeZone) (d : ℕ) (day : ChangedDay) : Type 0 where
  pub date : day.date ≡ (civil (d * 86_400)).date
  pub skipped : IsTrue day.skipped ↔ Skips ss z d
  pub doubled : IsTrue day.doubled ↔ Doubles ss z d
  pub some : (day.skipped || day.doubled) ≡ true

-- the list has the changed days from `first` up to but without `end`, in order
abbrev pub AreChangedDays : List Sets → TimeZone → ℕ → ℕ → List ChangedDay → Type 0
AreChangedDays ss z first end [] = (d : ℕ) → first ≤ d → d < end → IsUnchanged ss z d
AreChangedDays ss z first end (day ∷ more) =
    (d : ℕ) × (first ≤ d) × (d < end) × ((e : ℕ) → first ≤ e → e < d → IsUnchanged ss z e) × IsChangedDay ss z d day × AreChangedDays ss z (d + 1) end more

-- The changed days are appended to a list. If memory runs out, they are those before one of the
-- days.
abbrev pub AppendsChanges : {E : Type 0} → List Sets → TimeZone → ℕ → ℕ → List ChangedDay → Result ⊤ E → List ChangedDay → Type 0
AppendsChanges ss z first end before (Ok done) after = (more : List ChangedDay) × (after ≡ before ++ more) × AreChangedDays ss z first end more
AppendsChanges ss z first end before (Err why) after =
    (more : List ChangedDay) × (d : ℕ) × (d < end) × (after ≡ before ++ more) × AreChangedDays ss z first d more

-- the number of a day from 0 to `days_in_range` that is nearest to n
abbrev pub in_range : ℤ → ℕ
in_range (pos n) = min n days_in_range
in_range (negsuc n) = 0

-- the number of the day that a clock in the zone shows at the instant t, which is in nanoseconds
-- since 1970
abbrev pub first_day : TimeZone → ℤ → ℕ
first_day z t = in_range (int_div_euclid (int_div_euclid t (pos 1_000_000_000) +ℤ offset_at z t) (pos 86_400))

-- the day so many days after `first`, or the end of the range if that comes before
abbrev pub end_day : ℕ → ℕ → ℕ
end_day first ahead = min (first + ahead) days_in_range

-- the schedules of an entry at a fixed time; none for any other
abbrev pub fixed_by : ClockChanges → Option (List Sets) → List Sets
fixed_by Once (Some ss) = ss
fixed_by changes other = []

abbrev pub fixed_in : FileLine → List Sets
fixed_in line = fixed_by (changes_of Own line.bytes) (schedules_in line.outcome)

-- The changed days of a line's entry are appended, for so many days from the instant t on. A line that
-- is no entry at a fixed time has none.
abbrev pub ListsChanges : {E : Type 0} → FileLine → TimeZone → ℤ → ℕ → List ChangedDay → Result ⊤ E → List ChangedDay → Type 0
ListsChanges line z t ahead before answer after = AppendsChanges (fixed_in line) z (first_day z t) (end_day (first_day z t) ahead) before answer after
