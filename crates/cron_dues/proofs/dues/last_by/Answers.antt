use Rattle.std.proofs.Common.{rules, FitsSigned, w64, to_z-of_z}
use Rattle.cron_time.specs.Seconds.{is_match, matching_seconds}
use Rattle.cron_dues.proofs.MemberLemmas as member
use Rattle.cron_dues.proofs.dues.last_by.Goals as goal

pub returns : goal.returns
returns g c =
    let fits : FitsSigned w64 c.reached_by.result = search rules in
    member.last_by (matching_seconds (g.S.CivilSeconds.has c.args.set.now)) (is_match (g.S.CivilSeconds.has c.args.set.now)) (g.C.Clock.offsets c.args.clock.now) (member.sets-match (g.S.CivilSeconds.has c.args.set.now)) c.args.now.nanosecond c.reached_by.result c.nearest_due.result
    c.reached_by.ensures.reached (rw (to_z-of_z fits) at c.nearest_due.ensures)
