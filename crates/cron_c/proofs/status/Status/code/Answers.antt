use Rattle.std.proofs.Common.{rules}
use Rattle.cron_c.proofs.status.Status.code.Goals as goal

pub returns-in-Done : goal.returns-in-Done
returns-in-Done c = search rules

pub returns-in-NoItem : goal.returns-in-NoItem
returns-in-NoItem c = search rules

pub returns-in-Refused : goal.returns-in-Refused
returns-in-Refused c = search rules

pub returns-in-NotUtf8 : goal.returns-in-NotUtf8
returns-in-NotUtf8 c = search rules

pub returns-in-BadZone : goal.returns-in-BadZone
returns-in-BadZone c = search rules

pub returns-in-BadInstant : goal.returns-in-BadInstant
returns-in-BadInstant c = search rules

pub returns-in-NotAnItem : goal.returns-in-NotAnItem
returns-in-NotAnItem c = search rules

pub returns-in-Untold : goal.returns-in-Untold
returns-in-Untold c = search rules

pub returns-in-More : goal.returns-in-More
returns-in-More c = search rules
