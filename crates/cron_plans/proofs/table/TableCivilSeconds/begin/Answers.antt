use Rattle.cron_unions.specs.Inner.Cursor.{Knows}
use Rattle.cron_unions.specs.declared.union.Union.{Union}
use Rattle.cron_unions.specs.declared.union.UnionCursor.{UnionCursor}
use Rattle.cron_plans.specs.declared.table.Table.{Table as Set}
use Rattle.cron_plans.specs.declared.table.Table.TheVariants.{Whole, Planned}
use Rattle.cron_plans.specs.Inner.Tables.{KnowsTable}
use Rattle.cron_plans.proofs.table.TableCivilSeconds.begin.Goals as goal

-- what is known of all schedules is known of a table
of_table : (cursor : UnionCursor) → ((union : Union) → Knows union.schedules.now cursor) → (table : Set) → KnowsTable table cursor
of_table cursor all (Whole schedules) = all (record { schedules = schedules })
of_table cursor all (Planned set) = tt

pub returns : goal.returns
returns c = of_table c.begin.result c.begin.ensures
