-- The changes of a zone's clock: runs of civil seconds that it skips, or shows twice. Civil seconds
-- are numbered from 1970-01-01 00:00:00.
use Rattle.std.specs.Prelude.{◌≡◌, ◌≢◌, ◌<◌, ◌≤◌, ℕ, Bool, ◌&&◌, List, [], ◌∷◌, length, nat_le, nat_lt, if◌then◌else◌}
use Rattle.jiff_tz.specs.declared.timezone.TimeZone.{TimeZone}
use Rattle.cron_moments.specs.Readings.{readings}
use Rattle.cron_calendar.specs.declared.changes.Change.{Change}

abbrev pub has_second : ℕ → Change → Bool
has_second c change = nat_le change.first c && nat_lt c change.end

-- how often a clock shows the civil second c by a list of changes: as the first change says that
-- has c, or once if none has
abbrev pub times_told : List Change → ℕ → ℕ
times_told [] c = 1
times_told (change ∷ changes) c = if has_second c change then change.times else times_told changes c

-- a clock in the zone shows each civil second from `first` up to but without `end` this often
abbrev pub AreShown : TimeZone → ℕ → ℕ → ℕ → Type 0
AreShown z times first end = (c : ℕ) → first ≤ c → c < end → length (readings z c) ≡ times

-- A change of the zone's clock before `end`: the clock shows each civil second of it `times` times,
-- which isn't once. It is whole: it ends at `end`, or where the clock shows a civil second another
-- number of times.
pub record IsChange (z : TimeZone) (end : ℕ) (change : Change) : Type 0 where
  pub some : change.first < change.end
  pub within : change.end ≤ end
  pub not_once : change.times ≢ 1
  pub shown : AreShown z change.times change.first change.end
  pub whole : change.end < end → length (readings z change.end) ≢ change.times

-- the list has all changes from the civil second `at` up to `end`, in order: the clock shows what
-- is before, between and after them once
abbrev pub AreChanges : TimeZone → ℕ → ℕ → List Change → Type 0
AreChanges z end at [] = AreShown z 1 at end
AreChanges z end at (change ∷ changes) =
    (at ≤ change.first) × AreShown z 1 at change.first × IsChange z end change × AreChanges z end change.end changes
