-- What a search of several schedules knows.
use Rattle.std.specs.Prelude.{◌≡◌, ◌<◌, IfSome, List, [], ◌∷◌}
use Rattle.cron_units.specs.Sets.{Sets}
use Rattle.cron_moments.specs.Civil.{seconds_in_range}
use Rattle.cron_time.specs.Search.Inner.MonthDays.{KnowsDays}
use Rattle.cron_unions.specs.Inner.Merges.{Stands, schedules_of}
use Rattle.cron_unions.specs.Unions.{any_of}
use Rattle.cron_unions.specs.declared.merge.Merge.{Merge}
use Rattle.cron_unions.specs.declared.union.UnionCursor.{UnionCursor}

-- what is merged matches what the schedules do, and is at a civil second or past the range
pub record IsMergeOf (ss : List Sets) (m : Merge) : Type 0 where
  pub same : any_of (schedules_of m) ≡ any_of ss
  pub stands : m.from < seconds_in_range → Stands m

-- what a search has learned of the days of a month is true of a single schedule, and what it has
-- merged matches what all schedules do
pub record Knows (ss : List Sets) (c : UnionCursor) : Type 0 where
  pub days : (s : Sets) → ss ≡ s ∷ [] → KnowsDays s c.days
  pub merge : IfSome c.merge (IsMergeOf ss)
