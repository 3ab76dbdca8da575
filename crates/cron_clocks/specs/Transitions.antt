-- Where in a year the transitions of a rule lie, on the wall clock.
use Rattle.std.specs.Prelude.{◌≡◌, ℕ, ◌⊎◌, ℤ, pos, ◌+ℤ◌, ◌-ℤ◌, ◌*ℤ◌, ◌≤ℤ◌, Some}
use Rattle.jiff_core.specs.Calendar.{IsYear}
use Rattle.jiff_core.specs.Timestamp.{IsOffsetSeconds, nanos_of_seconds}
use Rattle.jiff_tz.specs.declared.posix.Day.{Day}
use Rattle.jiff_tz.specs.declared.posix.DayTime.{DayTime}
use Rattle.jiff_tz.specs.declared.posix.Dst.{Dst}
use Rattle.jiff_tz.specs.declared.posix.TimeZone.{TimeZone}
use Rattle.jiff_tz.specs.declared.timezone.TimeZone.TheVariants.{Posix}
use Rattle.jiff_tz.specs.PosixRule.{first_day, rule_day, rule_nanos}
use Rattle.cron_clocks.specs.Clocks.{LookupsAgree}

-- in the year y the rule's day is from day `first` to day `last`, counted from 0 for 1 January
pub record IsAmong (first last : ℕ) (day : Day) (y : ℤ) : Type 0 where
  pub number : ℤ
  pub named : rule_day y day ≡ Some number
  pub low : (first_day y +ℤ pos first) ≤ℤ number
  pub high : number ≤ℤ (first_day y +ℤ pos last)

-- in each year the rule's day is from day `first` to day `last`, counted from 0 for 1 January
abbrev pub IsAlwaysAmong : ℕ → ℕ → Day → Type 0
IsAlwaysAmong first last day = (y : ℤ) → IsYear y → IsAmong first last day y

-- the civil second that begins the year y, counted from 1970-01-01 00:00:00
abbrev pub year_start : ℤ → ℤ
year_start y = first_day y *ℤ pos 86_400

-- in the year y the rule's transition is at the civil second `second`, at whatever offset its clock
-- is
abbrev pub TransitionsAt : DayTime → ℤ → ℤ → Type 0
TransitionsAt transition y second = (s : ℤ) → IsOffsetSeconds s → rule_nanos y transition s ≡ nanos_of_seconds (second -ℤ s)

-- in the year y the rule's transition is from `first` to `last` seconds after the year's beginning
pub record TransitionsWithin (first last : ℤ) (transition : DayTime) (y : ℤ) : Type 0 where
  pub second : ℤ
  pub transitions : TransitionsAt transition y second
  pub low : (year_start y +ℤ first) ≤ℤ second
  pub high : second ≤ℤ (year_start y +ℤ last)

-- in each year the rule's transition is from `first` to `last` seconds after the year's beginning
abbrev pub AlwaysTransitionsWithin : ℤ → ℤ → DayTime → Type 0
AlwaysTransitionsWithin first last transition = (y : ℤ) → IsYear y → TransitionsWithin first last transition y

-- how many seconds a week has; `common_year` is how many 365 days have
abbrev pub week : ℤ
week = pos 604_800

abbrev pub common_year : ℤ
common_year = pos 31_536_000

-- the seconds of a year from `first` to `last` are at least a week from its edges
abbrev pub IsInside : ℤ → ℤ → Type 0
IsInside first last = (week ≤ℤ first) × ((last +ℤ week) ≤ℤ common_year)

-- in the year y the transitions lie a week or more from each other and from the year's edges, in this order
pub record TransitionInOrder (earlier later : DayTime) (y : ℤ) : Type 0 where
  pub first : ℤ
  pub second : ℤ
  pub first_transitions : TransitionsAt earlier y first
  pub second_transitions : TransitionsAt later y second
  pub low : (year_start y +ℤ week) ≤ℤ first
  pub apart : (first +ℤ week) ≤ℤ second
  pub high : (second +ℤ week) ≤ℤ (year_start y +ℤ common_year)

-- in each year the transitions are apart as in `TransitionInOrder`
abbrev pub AlwaysInOrder : DayTime → DayTime → Type 0
AlwaysInOrder earlier later = (y : ℤ) → IsYear y → TransitionInOrder earlier later y

-- the two transitions of a rule are a week or more from each other and from the edges of each year,
-- in one order or the other
abbrev pub TransitionsAreApart : Dst → Type 0
TransitionsAreApart d = AlwaysInOrder d.rule.start d.rule.end ⊎ AlwaysInOrder d.rule.end d.rule.start

-- with a rule whose transitions are apart the look-ups agree
abbrev pub ApartRulesAgree : Type 0
ApartRulesAgree = (rule : TimeZone) (d : Dst) → rule.dst ≡ Some d → TransitionsAreApart d → LookupsAgree (Posix rule)
