-- How many items of a set of civil seconds lie on each civil day, and in each civil hour. The items
-- are the readings of its civil seconds.
use Rattle.std.specs.Prelude.{ℕ, ◌+◌, ◌*◌, Bool, ◌&&◌, List, filter, length, map, nat_le, nat_lt}
use Rattle.std.specs.List.{range_with_len}
use Rattle.jiff_tz.specs.declared.timezone.TimeZone.{TimeZone}
use Rattle.cron_moments.specs.Readings.{Reading}
use Rattle.cron_time.specs.Seconds.{Seconds, timeline}

-- the civil second of a reading is at least `first` and less than `end`
abbrev pub is_in : ℕ → ℕ → Reading → Bool
is_in first end r = nat_le first r.second && nat_lt r.second end

-- the items in a stretch of civil seconds
abbrev pub items_in : Seconds → TimeZone → ℕ → ℕ → List Reading
items_in s z first end = filter (is_in first end) (timeline s z)

-- the items of the civil day with this number, counted from 1970-01-01
abbrev pub items_on_day : Seconds → TimeZone → ℕ → List Reading
items_on_day s z day = items_in s z (day * 86_400) (day * 86_400 + 86_400)

-- the items of the civil hour with this number, counted from 1970-01-01 00:00:00
abbrev pub items_in_hour : Seconds → TimeZone → ℕ → List Reading
items_in_hour s z hour = items_in s z (hour * 3600) (hour * 3600 + 3600)

-- how many items there are on each of `days` days, from the first one on
abbrev pub counts_by_day : Seconds → TimeZone → ℕ → ℕ → List ℕ
counts_by_day s z first days = map (λ day. length (items_on_day s z day)) (range_with_len first days)

-- how many items there are in each of `hours` hours, from the first one on
abbrev pub counts_by_hour : Seconds → TimeZone → ℕ → ℕ → List ℕ
counts_by_hour s z first hours = map (λ hour. length (items_in_hour s z hour)) (range_with_len first hours)
