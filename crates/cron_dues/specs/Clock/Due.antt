-- When a civil second is due by a clock: once, also where the clock changes.
use Rattle.std.specs.Prelude.{◌≡◌, ℕ, ◌<◌, ◌≤◌, zero, suc, ℤ, pos, ◌+ℤ◌, ◌-ℤ◌, ◌≤ℤ◌, ◌<ℤ◌, int_le, if◌then◌else◌, unsigned_abs}
use Rattle.jiff_core.specs.Timestamp.{IsOffsetSeconds, nanos_of_seconds}
use Rattle.jiff.specs.declared.tz.timezone.TimeZone.{TimeZone as Zone}
use Rattle.jiff.specs.Words.{plain_zone}
use Rattle.jiff_core.specs.declared.Offset.{Offset}
use Rattle.jiff_tz.specs.PosixRule as PosixRule
use Rattle.jiff_tz.specs.Tzif as Tables
use Rattle.jiff_tz.specs.Zone.{offset_at, zero_in_range}
use Rattle.jiff_tz.specs.declared.timezone.TimeZone.{TimeZone}
use Rattle.jiff_tz.specs.declared.timezone.TimeZone.TheVariants.{UTC, Unknown, Fixed, Posix, Tzif}
use Rattle.cron_moments.specs.Civil.{seconds_in_range}
use Rattle.cron_clocks.specs.Clocks.{shown_offset}

-- a clock: how far it is ahead of UTC at each whole second since 1970-01-01T00:00:00Z
abbrev pub Clock : Type 0
Clock = ℤ → Offset

-- what the clock shows n seconds after 1970-01-01T00:00:00Z, as the number of a civil second
abbrev pub shows : Clock → ℤ → ℤ
shows clock n = n +ℤ (clock n).seconds

-- n is the first instant at which the clock shows the civil second c or a later one
pub record IsDueAt (clock : Clock) (c : ℕ) (n : ℤ) : Type 0 where
  pub reached : pos c ≤ℤ shows clock n
  pub first : (m : ℤ) → m <ℤ n → shows clock m <ℤ pos c

-- the first of some instants from n on at which the clock shows the civil second c or a later one;
-- the instant after them if there is none
unfoldable pub first_reaching : Clock → ℕ → ℕ → ℤ → ℤ
first_reaching clock c zero n = n
first_reaching clock c (suc left) n = if int_le (pos c) (shows clock n) then n else first_reaching clock c left (n +ℤ pos 1)

-- the due instant of a civil second, in seconds. A clock is nearer than 26 hours to UTC
abbrev pub due_instant : Clock → ℕ → ℤ
due_instant clock c = first_reaching clock c 187_198 (pos c -ℤ pos 93_599)

-- by any clock, a civil second is due at the first instant when the clock shows it or a later one
abbrev pub DueInstantsAreFirst : Type 0
DueInstantsAreFirst = (clock : Clock) (c : ℕ) → IsDueAt clock c (due_instant clock c)

-- an offset of any zone is one that a clock can have
pub offset_near : (z : TimeZone) (n : ℤ) → IsOffsetSeconds (offset_at z n)
unfolding offset_at
offset_near UTC n = zero_in_range
offset_near Unknown n = zero_in_range
offset_near (Fixed offset) n = offset.in_range
offset_near (Posix tz) n = (PosixRule.offset_at tz n).in_range
offset_near (Tzif z) n = (Tables.offset_at z.now n).in_range

-- the clock of a zone
abbrev pub clock_of : TimeZone → Clock
clock_of z n = record { seconds = shown_offset z n; in_range = offset_near z (nanos_of_seconds n) }

abbrev pub zone_clock : Zone → Clock
zone_clock zone = clock_of (plain_zone zone)

-- a due fire: the nominal civil second, how many seconds past it the clock shows at the due
-- instant, and the clock's offset then
pub record Due : Type 0 where
  pub second : ℕ
  pub past : ℕ
  pub offset : Offset

abbrev pub parts : ℕ → ℕ → Offset → Due
parts c past o = record { second = c; past = past; offset = o }

-- a clock can have the due fire: the nominal second lies in the range, and the clock shows a second
-- past it by at most what two clocks can differ
abbrev pub CanBeDue : Due → Type 0
CanBeDue d = (d.second < seconds_in_range) × (d.past ≤ 187_198)

-- the due instant of a due fire, in seconds since 1970-01-01T00:00:00Z
abbrev pub instant : Due → ℤ
instant d = pos d.second +ℤ pos d.past -ℤ d.offset.seconds

-- the due fire of a civil second; outside of gaps it is 0 seconds past
abbrev pub due : Clock → ℕ → Due
due clock c = record {
  second = c;
  past = unsigned_abs (shows clock (due_instant clock c) -ℤ pos c);
  offset = clock (due_instant clock c);
}

-- the due fire of a civil second is due at the due instant of that civil second
abbrev pub FiresAreDue : Type 0
FiresAreDue = (clock : Clock) (c : ℕ) → instant (due clock c) ≡ due_instant clock c
