use Rattle.std.proofs.Common.{◌%◌, ◌/◌, None, Some, arith}
use Rattle.std.proofs.lemmas.Bool.{ltb-true}
use Rattle.cron_seconds.proofs.ScheduleLemmas.{no_hour_between}
use Rattle.cron_seconds.proofs.schedule.has_no_hour.Goals as goal

pub returns-in-Some : goal.returns-in-Some
returns-in-Some c less k low high =
    no_hour_between c.args.fields.now c.args.first c.args.last (Some c.in-Some.hour) (omega (arith, c.if-first-last.false)) c.in-Some.ensures.nearest (ltb-true (c.args.last % 86_400 / 3600) c.in-Some.hour less) k
    low high

pub returns-in-None : goal.returns-in-None
returns-in-None c less k low high =
    no_hour_between c.args.fields.now c.args.first c.args.last None (omega (arith, c.if-first-last.false)) c.in-None.ensures.nearest tt k
    low high
