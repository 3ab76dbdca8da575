use Rattle.std.proofs.Common.{rules}
use Rattle.cron_units.proofs.fields.ScheduleFields.includes_weekday.Goals as goal

pub returns : goal.returns
returns c = search rules
