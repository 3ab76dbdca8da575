-- The fires of a set in a zone: the items of its timeline in the order of their instants.
use Rattle.std.specs.Prelude.{ℤ, Bool, if◌then◌else◌, List, [], ◌∷◌}
use Rattle.jiff_tz.specs.declared.timezone.TimeZone.{TimeZone}
use Rattle.cron_time.specs.Seconds.{Seconds, timeline}
use Rattle.cron_moments.specs.Readings.{Reading, instant}
use Rattle.cron_seconds.specs.Rules as rules
use Rattle.cron_instants.specs.Order.{is_earlier}

-- a reading put before the first one that it is earlier than
unfoldable pub insert : Reading → List Reading → List Reading
insert r [] = r ∷ []
insert r (q ∷ l) = if is_earlier r q then r ∷ q ∷ l else q ∷ insert r l

unfoldable pub earliest_first : List Reading → List Reading
earliest_first [] = []
earliest_first (r ∷ l) = insert r (earliest_first l)

-- the items of the timeline, the earliest first
abbrev pub fires : Seconds → TimeZone → List Reading
fires s z = earliest_first (timeline s z)

-- the reading's instant comes after the instant t, which is in nanoseconds since 1970
abbrev pub is_after : ℤ → Reading → Bool
is_after t r = rules.is_after instant t r

-- the reading's instant is t, which is in nanoseconds since 1970, or comes before it
abbrev pub is_by : ℤ → Reading → Bool
is_by t r = rules.is_by instant t r

-- the fires whose instant comes after t
abbrev pub fires_after : Seconds → TimeZone → ℤ → List Reading
fires_after s z t = rules.all_after instant (fires s z) t

-- the fires that are later than a reading
abbrev pub fires_past : Seconds → TimeZone → Reading → List Reading
fires_past s z item = rules.all_past is_earlier (fires s z) item

-- the fires after one instant and up to and with another
abbrev pub fires_between : Seconds → TimeZone → ℤ → ℤ → List Reading
fires_between s z last now = rules.all_between instant (fires s z) last now

-- the fires that are later than a reading, up to and with an instant
abbrev pub fires_past_by : Seconds → TimeZone → Reading → ℤ → List Reading
fires_past_by s z item now = rules.all_past_by instant is_earlier (fires s z) item now

-- the fires whose instant is t or comes before it, the latest first
abbrev pub fires_back : Seconds → TimeZone → ℤ → List Reading
fires_back s z t = rules.all_back instant (fires s z) t

-- the fires that are earlier than a reading, the latest first
abbrev pub fires_before : Seconds → TimeZone → Reading → List Reading
fires_before s z item = rules.all_before is_earlier (fires s z) item
