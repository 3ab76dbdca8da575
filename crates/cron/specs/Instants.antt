-- The first two answers of a walk: in each zone by its timeline, and in a zone with one offset by
-- instants.
use Rattle.std.specs.Prelude.{◌≡◌, ℤ, pos, ◌*ℤ◌, [], ◌∷◌, Option, Some, None, MatchOption}
use Rattle.jiff_tz.specs.declared.timezone.TimeZone.{TimeZone}
use Rattle.cron_units.specs.declared.way.Way.TheVariants.{Ahead}
use Rattle.cron_time.specs.Walk.Cursor.{Start, run_on}
use Rattle.cron_time.specs.Walk.FixedLaws.{Shows, IsAfter, IsLeastAfter}
use Rattle.cron_time.specs.Timeline.{timeline}
use Rattle.cron_moments.specs.Readings.{Reading, instant}
use Rattle.cron_units.specs.Sets.{Sets}

-- the answer is the least instant after t that shows a match, and `None` exactly where there is none
abbrev pub IsLeastIfAny : Sets → ℤ → ℤ → Option Reading → Type 0
IsLeastIfAny s offset t answer = MatchOption answer ((n : ℤ) → IsAfter t n → ¬ (Shows s offset n)) (IsLeastAfter s offset t)

-- the second answer is the least instant after the first one that shows a match, and `None` exactly
-- where there is none; without a first answer there is no second
abbrev pub IsNextIfAny : Sets → ℤ → Option Reading → Option Reading → Type 0
IsNextIfAny s offset None second = second ≡ None
IsNextIfAny s offset (Some r) second = IsLeastIfAny s offset (instant r *ℤ pos 1_000_000_000) second

-- these are the answers of two calls ahead, one after the other from the start, on the timeline of the sets in the zone
abbrev pub AreFirstTwo : Sets → TimeZone → ℤ → Option Reading → Option Reading → Type 0
AreFirstTwo s z start first second = (first ∷ second ∷ []) ≡ (run_on (timeline s z) z (Ahead ∷ Ahead ∷ []) (Start start)).answers
