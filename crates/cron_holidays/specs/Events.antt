-- The days of an event.
use Rattle.std.specs.Prelude.{ℕ, zero, suc, ◌+◌, ◌-◌, ◌==◌, nat_le, Bool, false, ◌||◌, List, [], ◌∷◌, ◌++◌, Option, Some, None, unwrap_or, Result, Ok, Err, codes, slice_index, if◌then◌else◌}
use Rattle.std.specs.Option.{is_some}
use Rattle.cron_crontab.specs.Items.{and_then}
use Rattle.cron_moments.specs.Civil.{days_in_range}
use Rattle.cron_holidays.specs.Dates.{day_of_digits}
use Rattle.cron_holidays.specs.Properties.{is_word}
use Rattle.cron_holidays.specs.declared.event.Event.{Event}
use Rattle.cron_holidays.specs.declared.fault.Reason.{Reason}
use Rattle.cron_holidays.specs.declared.fault.Reason.TheVariants.{HasTime, Twice, NotAfterStart, HasDuration, Repeats as IsRepeated, NoStart}
use Rattle.cron_holidays.specs.declared.fault.Refused.{Refused}
use Rattle.cron_holidays.specs.declared.properties.Property.{Property}
use Rattle.cron_holidays.specs.declared.properties.Property.TheVariants.{DtStart, DtEnd, Status, Duration, Repeats, Unread}

-- the event that begins on this line
abbrev pub begun : ℕ → Event
begun line = record { line = line; start = None; end = None; cancelled = false }

-- a whole day, `YYYYMMDD`; a time of day would follow a `T`
abbrev pub whole_day : ℕ → List ℕ → Result ℕ Reason
whole_day end value = if slice_index value 8 == 84 then Err HasTime else day_of_digits end value

-- the day after the event isn't after its start
abbrev pub is_turned : Option ℕ → Option ℕ → Bool
is_turned (Some start) (Some end) = nat_le end start
is_turned _ _ = false

abbrev pub in_order : Event → Result Event Reason
in_order event = if is_turned event.start event.end then Err NotAfterStart else Ok event

abbrev pub with_start : Event → List ℕ → Result Event Reason
with_start event value =
    if is_some event.start then Err Twice
    else and_then (whole_day days_in_range value) (λ day. in_order (record event { start = Some day }))

-- the end is the first day after the event, and may be the first day after the range
abbrev pub with_end : Event → List ℕ → Result Event Reason
with_end event value =
    if is_some event.end then Err Twice
    else and_then (whole_day (days_in_range + 1) value) (λ day. in_order (record event { end = Some day }))

abbrev pub with_status : Event → List ℕ → Event
with_status event value = record event { cancelled = event.cancelled || is_word value (codes "CANCELLED") }

-- an event with one more property
abbrev pub with_property : Event → Property → List ℕ → Result Event Reason
with_property event DtStart value = with_start event value
with_property event DtEnd value = with_end event value
with_property event Status value = Ok (with_status event value)
with_property event Duration value = Err HasDuration
with_property event Repeats value = Err IsRepeated
with_property event Unread value = Ok event

-- so many days from a first one on
abbrev pub days_from : ℕ → ℕ → List ℕ
days_from first zero = []
days_from first (suc n) = days_from first n ++ (first + n) ∷ []

-- the days from the start to the end, which isn't one of them; one day where no end is told
abbrev pub days_between : ℕ → Option ℕ → List ℕ
days_between start end = days_from start (unwrap_or end (start + 1) - start)

-- the days of an event that has a start; a cancelled one has none
abbrev pub days_since : Event → Option ℕ → Result (List ℕ) Refused
days_since event None = Err (record { line = event.line; reason = NoStart })
days_since event (Some start) = Ok (if event.cancelled then [] else days_between start event.end)

abbrev pub event_days : Event → Result (List ℕ) Refused
event_days event = days_since event event.start

-- some days, with those of an event
abbrev pub with_event_days : List ℕ → Event → Result (List ℕ) Refused
with_event_days days event = and_then (event_days event) (λ more. Ok (days ++ more))
