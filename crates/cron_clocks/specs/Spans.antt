-- Civil seconds between the transitions of a rule. They are counted from 1970-01-01 00:00:00, and
-- moments in nanoseconds from it.
use Rattle.std.specs.Prelude.{◌≡◌, ℕ, ◌⊎◌, ℤ, ◌+ℤ◌, pos, ◌-ℤ◌, ◌*ℤ◌, ◌≤ℤ◌, ◌<ℤ◌}
use Rattle.jiff_core.specs.Calendar.{IsYear, days_in_year}
use Rattle.jiff_core.specs.Timestamp.{nanos_of_seconds}
use Rattle.jiff_tz.specs.declared.posix.DayTime.{DayTime}
use Rattle.jiff_tz.specs.declared.posix.Dst.{Dst}
use Rattle.jiff_tz.specs.declared.posix.TimeZone.{TimeZone}
use Rattle.jiff_core.specs.declared.Offset.{Offset}
use Rattle.jiff_tz.specs.PosixRule.{ambiguous_at, first_day, in_span, in_window, rule_nanos, saturating_add, saturating_sub, shift_between}
use Rattle.cron_moments.specs.Civil.{civil}

-- the first whole second that isn't before the moment
abbrev pub IsFirstFrom : ℤ → ℤ → Type 0
IsFirstFrom moment second = ((nanos_of_seconds second -ℤ pos 1_000_000_000) <ℤ moment) × (moment ≤ℤ nanos_of_seconds second)

-- the transition doesn't part the seconds from `first` up to `end`: it is none of those after the
-- first one
abbrev pub IsUnparted : ℤ → ℤ → ℤ → Type 0
IsUnparted first end transition = (transition ≤ℤ first) ⊎ (end ≤ℤ transition)

-- the span from `from` up to `to` lies in the span from `first` up to `end`
abbrev pub IsNarrowed : ℤ → ℤ → ℤ → ℤ → Type 0
IsNarrowed first end from to = (first ≤ℤ from) × (to ≤ℤ end)

-- the rule has the same offsets for each civil second from `first` up to `end` as for the civil
-- second c
abbrev pub IsToldAlike : TimeZone → ℕ → ℤ → ℤ → Type 0
IsToldAlike rule c first end = (k : ℕ) → first ≤ℤ pos k → pos k <ℤ end → ambiguous_at rule (civil k) ≡ ambiguous_at rule (civil c)

-- the moment is at that second of a year, or, if the second ends the year, one nanosecond before it
abbrev pub IsAtSecond : ℤ → ℤ → ℤ → Type 0
IsAtSecond last moment second =
    ((moment ≡ nanos_of_seconds second) × (second <ℤ last)) ⊎ ((moment ≡ nanos_of_seconds second -ℤ pos 1) × (second ≡ last))

-- the moments of two transitions part the moment of second n in the same way as their seconds part
-- it
pub record PartsAlike (std dst : Offset) (w : ℤ × ℤ) (start end saving n : ℤ) : Type 0 where
  pub window : in_window w (nanos_of_seconds n) ≡ in_window (start, end) n
  pub starts_ahead : in_span w.0 (saturating_add w.0 (shift_between std dst)) (nanos_of_seconds n) ≡ in_span start (start +ℤ saving) n
  pub starts_behind : in_span (saturating_add w.0 (shift_between std dst)) w.0 (nanos_of_seconds n) ≡ in_span (start +ℤ saving) start n
  pub ends_ahead : in_span (saturating_sub w.1 (shift_between std dst)) w.1 (nanos_of_seconds n) ≡ in_span (end -ℤ saving) end n
  pub ends_behind : in_span w.1 (saturating_sub w.1 (shift_between std dst)) (nanos_of_seconds n) ≡ in_span end (end -ℤ saving) n

-- the civil second that ends the year
abbrev pub year_end : ℤ → ℤ
year_end y = (first_day y +ℤ pos (days_in_year y)) *ℤ pos 86_400

-- the transition is at that second of the year y; one beyond an edge of the year counts as being at
-- the edge
pub record IsTransition (transition : DayTime) (y second : ℤ) : Type 0 where
  pub value : IsAtSecond (year_end y) (rule_nanos y transition (pos 0)) second
  pub low : (first_day y *ℤ pos 86_400) ≤ℤ second
  pub high : second ≤ℤ year_end y

-- `first` and `last` bound the civil seconds of a year, and the two transitions of it are at
-- `start` and `end`
pub record AreTransitions (d : Dst) (first last start end : ℤ) : Type 0 where
  pub number : ℤ
  pub year : IsYear number
  pub from : first ≡ first_day number *ℤ pos 86_400
  pub to : last ≡ year_end number
  pub starts : IsTransition d.rule.start number start
  pub ends : IsTransition d.rule.end number end

-- the transition is so far from the edges of the year that it is in that year at every offset
abbrev pub IsFarInside : ℤ → ℤ → ℤ → Type 0
IsFarInside first last transition = ((first +ℤ pos 93_600) ≤ℤ transition) × ((transition +ℤ pos 93_600) ≤ℤ last)
