-- What a search of a table has learned.
use Rattle.cron_unions.specs.Inner.Cursor.{Knows}
use Rattle.cron_unions.specs.declared.union.UnionCursor.{UnionCursor}
use Rattle.cron_plans.specs.declared.table.Table.{Table}
use Rattle.cron_plans.specs.declared.table.Table.TheVariants.{Whole, Planned}

-- the cursor is one of the schedules; searches by a plan have none
abbrev pub KnowsTable : Table → UnionCursor → Type 0
KnowsTable (Whole schedules) cursor = Knows schedules.now cursor
KnowsTable (Planned set) cursor = Unit {0}
