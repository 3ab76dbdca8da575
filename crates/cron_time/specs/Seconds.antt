-- A set of civil seconds, and its timeline in a zone: a list that is never computed.
use Rattle.std.specs.Prelude.{ℕ, zero, suc, Bool, true, false, ◌&&◌, nat_lt, List, [], ◌∷◌, ◌++◌, filter, if◌then◌else◌}
use Rattle.std.specs.List.{flat_map}
use Rattle.jiff_tz.specs.declared.timezone.TimeZone.{TimeZone}
use Rattle.cron_moments.specs.Civil.{seconds_in_range}
use Rattle.cron_moments.specs.Readings.{Reading, readings}

-- a set of civil seconds, as a test of their numbers: what it says of numbers past the range doesn't count
abbrev pub Seconds : Type 0
Seconds = ℕ → Bool

-- the set has this civil second of the range
abbrev pub is_match : Seconds → ℕ → Bool
is_match s c = nat_lt c seconds_in_range && s c

-- the numbers below n, in ascending order
unfoldable pub numbers_below : ℕ → List ℕ
numbers_below zero = []
numbers_below (suc n) = numbers_below n ++ n ∷ []

-- the civil seconds of the range that the set has, in ascending order
unfoldable pub matching_seconds : Seconds → List ℕ
matching_seconds s = filter s (numbers_below seconds_in_range)

-- the civil seconds of the set below n, in ascending order, each replaced by its readings
unfoldable pub items_below : Seconds → TimeZone → ℕ → List Reading
items_below s z n = flat_map (readings z) (filter s (numbers_below n))

-- the readings of all civil seconds of the set, 1970-01-01 00:00:00 to 2100-12-31 23:59:59
unfoldable pub timeline : Seconds → TimeZone → List Reading
timeline s z = items_below s z seconds_in_range

-- the items of the timeline with this civil second: its readings if the set has it
unfoldable pub items_of : Seconds → TimeZone → ℕ → List Reading
items_of s z c = if s c then readings z c else []

abbrev pub has_item : List Reading → Bool
has_item [] = false
has_item (r ∷ rs) = true

-- the civil second stands on the timeline: it is in range, the set has it, and it has a reading
abbrev pub stands : Seconds → TimeZone → ℕ → Bool
stands s z c = nat_lt c seconds_in_range && has_item (items_of s z c)
