-- The set of what a plan leaves of schedules.
use Rattle.cron_time.specs.Seconds.{Seconds}
use Rattle.cron_unions.specs.Unions.{any_of}
use Rattle.cron_days.specs.Sets.{except}
use Rattle.cron_plans.specs.Plans.{all_allow, by_days}
use Rattle.cron_plans.specs.declared.planned.Planned.{Planned}

abbrev pub has_planned : Planned → Seconds
has_planned set = by_days set.moves (all_allow set.days.now) (except (any_of set.rest.schedules.now) (any_of set.rest.without.now))
