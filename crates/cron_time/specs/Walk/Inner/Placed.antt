-- The cursor of a walk by what its state keeps. A stand is the start, the reading or the end that
-- the state says. A cursor is a place on the timeline.
use Rattle.std.specs.Prelude.{◌≡◌, ℕ, ◌+◌, ◌<◌, ℤ, Bool, true, false, length, is_some, if◌then◌else◌, Option, Some, None}
use Rattle.cron_units.specs.declared.way.Way.{Way}
use Rattle.cron_units.specs.declared.way.Way.TheVariants.{Ahead, Back}
use Rattle.jiff_tz.specs.declared.timezone.TimeZone.{TimeZone}
use Rattle.cron_moments.specs.Civil.{seconds_in_range}
use Rattle.cron_clocks.specs.Steady.{IsKnown}
use Rattle.cron_time.specs.Walk.Cursor.{Cursor, Start, Place, Ended}
use Rattle.cron_moments.specs.Found.{found_items}
use Rattle.cron_moments.specs.Readings.{Reading}
use Rattle.cron_time.specs.Search.{items_of}
use Rattle.cron_time.specs.Search.Inner.MonthDays.{KnowsDays}
use Rattle.cron_units.specs.Sets.{Sets}
use Rattle.cron_time.specs.Timeline.{items_below}
use Rattle.cron_moments.specs.declared.readings.Found.{Found}
use Rattle.cron_time.specs.Walk.Inner.Stand.{Stand}
use Rattle.cron_time.specs.Walk.Inner.Stand as Kept
use Rattle.cron_time.specs.Walk.Ways.{opposite}
use Rattle.cron_time.specs.declared.walk.state.Stage.{Stage}
use Rattle.cron_time.specs.declared.walk.state.Stage.TheVariants as stage
use Rattle.cron_time.specs.declared.walk.state.State.{State}

-- the stand of a state with this stage, the earlier or only reading, the later one, and the start
abbrev pub stand_at : Stage → Reading → Reading → ℤ → Stand
stand_at stage.Start earlier later start = Kept.Start start
stand_at stage.Single earlier later start = Kept.At (record { first = earlier; second = None }) false
stand_at stage.Earlier earlier later start = Kept.At (record { first = earlier; second = Some later }) false
stand_at stage.Later earlier later start = Kept.At (record { first = earlier; second = Some later }) true
stand_at stage.Ended earlier later start = Kept.Ended

abbrev pub stand_of : State → Stand
stand_of state = stand_at state.stage state.earlier state.later state.start.nanosecond

-- which reading of its civil second: 0 for the earlier or only one, 1 for the later one
abbrev pub index : Bool → ℕ
index later = if later then 1 else 0

-- the place of a reading on the timeline: how many items come before its civil second, and one more
-- for the later reading
abbrev pub place_of : Sets → TimeZone → ℕ → Bool → ℕ
place_of s z c later = length (items_below s z c) + index later

abbrev pub cursor_of : Sets → TimeZone → Stand → Cursor
cursor_of s z (Kept.Start t) = Start t
cursor_of s z (Kept.At f later) = Place (place_of s z f.first.second later)
cursor_of s z Kept.Ended = Ended

-- the readings that a walk keeps are the items of their civil second, and it is at one of them
pub record IsKept (s : Sets) (z : TimeZone) (f : Found) (later : Bool) : Type 0 where
  pub high : f.first.second < seconds_in_range
  pub items : items_of s z f.first.second ≡ found_items f
  pub inside : index later < length (found_items f)

abbrev pub IsPlaced : Sets → TimeZone → Stand → Type 0
IsPlaced s z (Kept.Start t) = Unit {0}
IsPlaced s z (Kept.At f later) = IsKept s z f later
IsPlaced s z Kept.Ended = Unit {0}

-- the reading where the walk is, the later one if `true`: the answer of the call that led there
abbrev pub reading_of : Found → Bool → Option Reading
reading_of f true = f.second
reading_of f false = Some f.first

-- the answer of the call that led to a stand; `None` at the start and at the end
abbrev pub answer_of : Stand → Option Reading
answer_of (Kept.Start t) = None
answer_of (Kept.At f later) = reading_of f later
answer_of Kept.Ended = None

-- whether the last of a civil second's readings, in this direction, is the later one
abbrev pub last_is_later : Way → Found → Bool
last_is_later Ahead f = is_some f.second
last_is_later Back f = false

-- where a search leaves a walk: at the first of the readings found, in this direction, or at the
-- end
abbrev pub stop_of : Way → Option Found → Stand
stop_of way None = Kept.Ended
stop_of way (Some f) = Kept.At f (last_is_later (opposite way) f)

-- what a walk keeps from earlier searches is true: the matching days of a month, and the offsets of
-- a stretch of civil seconds
abbrev pub Knows : Sets → TimeZone → State → Type 0
Knows s z state = KnowsDays s state.days × IsKnown z state.stretch
