use Rattle.std.proofs.Common.{rules, ◌≡◌, ◌-ℤ◌, pos, w64, FitsSigned, to_z-of_z}
use Rattle.cron_time.specs.Seconds.{is_match, matching_seconds}
use Rattle.cron_dues.proofs.MemberLemmas as member
use Rattle.cron_dues.proofs.dues.last_before.Goals as goal

pub returns : goal.returns
returns g c =
    let from : c.from.result ≡ pos c.args.fire.now.second = rw c.nominal_second.ensures at c.from.ensures in
    let fits : FitsSigned w64 c.from.result = search rules in
    let fits-next : FitsSigned w64 (c.from.result -ℤ pos 1) = search rules in
    member.last_before (matching_seconds (g.S.CivilSeconds.has c.args.set.now)) (is_match (g.S.CivilSeconds.has c.args.set.now)) (g.C.Clock.offsets c.args.clock.now) (member.sets-match (g.S.CivilSeconds.has c.args.set.now)) c.args.fire.now c.nearest_due.result
    (rw (to_z-of_z fits, to_z-of_z fits-next, from) at c.nearest_due.ensures)
