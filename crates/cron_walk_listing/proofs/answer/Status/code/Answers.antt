use Rattle.std.proofs.Common.{rules}
use Rattle.cron_walk_listing.proofs.answer.Status.code.Goals as goal

pub returns-in-Listed : goal.returns-in-Listed
returns-in-Listed c = search rules

pub returns-in-Refused : goal.returns-in-Refused
returns-in-Refused c = search rules

pub returns-in-BadArguments : goal.returns-in-BadArguments
returns-in-BadArguments c = search rules

pub returns-in-WriteFailed : goal.returns-in-WriteFailed
returns-in-WriteFailed c = search rules
