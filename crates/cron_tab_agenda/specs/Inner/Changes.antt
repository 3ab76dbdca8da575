-- Whether civil seconds are skipped or doubled, as the search finds it.
use Rattle.std.specs.Prelude.{◌<◌, ◌≤◌, ◌↔◌, ℕ, IsTrue, List, Option, MatchOption}
use Rattle.jiff_tz.specs.declared.timezone.TimeZone.{TimeZone}
use Rattle.cron_units.specs.Sets.{Sets}
use Rattle.cron_tab_agenda.specs.ChangedDays.{HasSecond, IsChangedDay, IsDoubledAt, IsSkippedAt, IsUnchanged}
use Rattle.cron_tab_agenda.specs.declared.changed_days.ChangedDay.{ChangedDay}
use Rattle.cron_tab_agenda.specs.declared.changed_days.Changes.{Changes}

-- `changes` says whether a civil second from `first` up to but without its end is skipped, and
-- whether one is doubled
pub record AreChanges (ss : List Sets) (z : TimeZone) (first : ℕ) (changes : Changes) : Type 0 where
  pub skipped : IsTrue changes.skipped ↔ HasSecond (IsSkippedAt ss z) first changes.end
  pub doubled : IsTrue changes.doubled ↔ HasSecond (IsDoubledAt ss z) first changes.end

-- no day from `first` up to but without `end` is changed
abbrev pub AreUnchanged : List Sets → TimeZone → ℕ → ℕ → Type 0
AreUnchanged ss z first end = (d : ℕ) → first ≤ d → d < end → IsUnchanged ss z d

-- the answer is the first changed day from `first` up to but without `end`, with its number; none
-- if no day is changed
abbrev pub IsNextChanged : List Sets → TimeZone → ℕ → ℕ → Option (ℕ × ChangedDay) → Type 0
IsNextChanged ss z first end answer =
    MatchOption answer (AreUnchanged ss z first end) (λ r. (first ≤ r.0) × (r.0 < end) × AreUnchanged ss z first r.0 × IsChangedDay ss z r.0 r.1)
