-- The days of an iCalendar file: what each of its lines adds to what was read before.
use Rattle.std.specs.Prelude.{ℕ, ◌-◌, ◌==◌, Bool, not, ◌&&◌, ◌||◌, List, [], ◌∷◌, ◌++◌, Option, Some, None, Result, Ok, Err, codes, length, take, slice_get, if◌then◌else◌}
use Rattle.cron_crontab.specs.Items.{and_then}
use Rattle.cron_holidays.specs.Lines.{Line}
use Rattle.cron_holidays.specs.Lists.{on_line}
use Rattle.cron_holidays.specs.Contents.{unfolded}
use Rattle.cron_holidays.specs.Properties.{is_word, kind_of, name_of, value_of}
use Rattle.cron_holidays.specs.Events.{begun, with_event_days, with_property}
use Rattle.cron_holidays.specs.declared.event.Event.{Event}
use Rattle.cron_holidays.specs.declared.fault.Reason.{Reason}
use Rattle.cron_holidays.specs.declared.fault.Reason.TheVariants.{OutsideCalendar, OtherEnd, NotClosed}
use Rattle.cron_holidays.specs.declared.fault.Refused.{Refused}
use Rattle.cron_holidays.specs.declared.properties.Kind.{Kind}
use Rattle.cron_holidays.specs.declared.properties.Kind.TheVariants.{Begin, End, Other}
use Rattle.cron_holidays.specs.declared.properties.Property.{Property}

-- a component that is open: the number of its first line, and its name
pub record Open : Type 0 where
  pub line : ℕ
  pub name : List ℕ

-- What was read up to a line: the components that are open, the outermost first; the event, where
-- one is open; the days of the events that have ended.
pub record Reading : Type 0 where
  pub open_ones : List Open
  pub event : Event
  pub days : List ℕ

abbrev pub nothing : Reading
nothing = record { open_ones = []; event = begun 0; days = [] }

abbrev pub innermost : List Open → Option Open
innermost ones = slice_get ones (length ones - 1)

abbrev pub outer : List Open → List Open
outer ones = take (length ones - 1) ones

-- outside all others only a calendar begins
abbrev pub can_begin : ℕ → List ℕ → Bool
can_begin depth name = not (depth == 0) || is_word name (codes "VCALENDAR")

-- the innermost of so many components, with this name, is an event directly in a calendar
abbrev pub is_event : ℕ → List ℕ → Bool
is_event depth name = depth == 2 && is_word name (codes "VEVENT")

-- the event, where a component begins in so many
abbrev pub event_at : ℕ → Event → ℕ → Event
event_at depth event line = if depth == 1 then begun line else event

abbrev pub refused : {A : Type 0} → ℕ → Reason → Result A Refused
refused line reason = Err (record { line = line; reason = reason })

-- a component begins
abbrev pub with_begin : Reading → ℕ → List ℕ → Result Reading Refused
with_begin reading line name =
    if can_begin (length reading.open_ones) name
    then Ok (record {
      open_ones = reading.open_ones ++ record { line = line; name = name } ∷ [];
      event = event_at (length reading.open_ones) reading.event line;
      days = reading.days;
    })
    else refused line OutsideCalendar

-- the days, where the innermost component ends: those of an event are added
abbrev pub days_after : Reading → Open → Result (List ℕ) Refused
days_after reading one = if is_event (length reading.open_ones) one.name then with_event_days reading.days reading.event else Ok reading.days

-- the innermost component ends
abbrev pub with_end_of : Reading → Option Open → ℕ → List ℕ → Result Reading Refused
with_end_of reading None line name = refused line OutsideCalendar
with_end_of reading (Some one) line name =
    if is_word name one.name
    then and_then (days_after reading one) (λ days. Ok (record { open_ones = outer reading.open_ones; event = reading.event; days = days }))
    else refused line OtherEnd

-- another property of the innermost component: only those of events count
abbrev pub with_other : Reading → Option Open → ℕ → Property → List ℕ → Result Reading Refused
with_other reading None line property value = refused line OutsideCalendar
with_other reading (Some one) line property value =
    if is_event (length reading.open_ones) one.name
    then and_then (on_line line (with_property reading.event property value)) (λ event. Ok (record reading { event = event }))
    else Ok reading

abbrev pub with_kind : Reading → ℕ → Kind → List ℕ → Result Reading Refused
with_kind reading line Begin value = with_begin reading line value
with_kind reading line End value = with_end_of reading (innermost reading.open_ones) line value
with_kind reading line (Other property) value = with_other reading (innermost reading.open_ones) line property value

-- with one more line
abbrev pub with_content : Reading → Line → Result Reading Refused
with_content reading line = with_kind reading line.number (kind_of (name_of line.text)) (value_of line.text)

abbrev pub with_contents : Reading → List Line → Result Reading Refused
with_contents reading [] = Ok reading
with_contents reading (line ∷ lines) = and_then (with_content reading line) (λ next. with_contents next lines)

-- the days, where no component is open any more
abbrev pub days_at_end : List ℕ → Option Open → Result (List ℕ) Refused
days_at_end days None = Ok days
days_at_end days (Some one) = refused one.line NotClosed

abbrev pub ended : Reading → Result (List ℕ) Refused
ended reading = days_at_end reading.days (innermost reading.open_ones)

-- the days of a calendar, or its first line that is refused
abbrev pub calendar_days : List Line → Result (List ℕ) Refused
calendar_days lines = and_then (with_contents nothing (unfolded lines)) ended
