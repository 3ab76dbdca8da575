use Rattle.std.proofs.Common.{rules, ◌+ℤ◌, pos, FitsSigned, w64, to_z-of_z, None, Some, arith}
use Rattle.jiff_core.proofs.SignedLemmas.{signed_arith}
use Rattle.cron_units.specs.declared.way.Way.TheVariants.{Ahead}
use Rattle.cron_time.specs.Seconds.{is_match, matching_seconds}
use Rattle.cron_dues.proofs.AheadLemmas.{nearest_is}
use Rattle.cron_dues.proofs.MemberLemmas as member
use Rattle.cron_dues.proofs.ReachLemmas.{leads_to}
use Rattle.cron_dues.proofs.dues.first_after.Goals as goal

pub due_past-requires-clause-ahead : goal.due_past-requires-clause-ahead
due_past-requires-clause-ahead g c =
    let fits : FitsSigned w64 c.reach_by-reach.result.second = search rules in
    let fits-next : FitsSigned w64 (c.reach_by-reach.result.second +ℤ pos 1) = search rules in
    let near = rw (to_z-of_z fits, to_z-of_z fits-next) at c.in-Some.ensures.nearest in
    let lies = near.lies in
    leads_to (g.C.Clock.offsets c.args.clock.now) c.reach_by-reach.result.second c.in-Some.second c.reach_by-reach.result.span
    c.reach_by-reach.ensures.span (omega (arith, signed_arith))

pub returns-in_default : goal.returns-in_default
returns-in_default g c =
    let fits : FitsSigned w64 c.reach_by-reach.result.second = search rules in
    let fits-next : FitsSigned w64 (c.reach_by-reach.result.second +ℤ pos 1) = search rules in
    member.first_after (matching_seconds (g.S.CivilSeconds.has c.args.set.now)) (is_match (g.S.CivilSeconds.has c.args.set.now)) (g.C.Clock.offsets c.args.clock.now) (member.sets-match (g.S.CivilSeconds.has c.args.set.now)) c.args.now.nanosecond c.reach_by-reach.result.second None
    c.reach_by-reach.ensures.reached (rw (to_z-of_z fits, to_z-of_z fits-next, c.in_default.is) at c.nearest.ensures.nearest)

pub returns : goal.returns
returns g c =
    let fits : FitsSigned w64 c.reach_by-reach.result.second = search rules in
    let fits-next : FitsSigned w64 (c.reach_by-reach.result.second +ℤ pos 1) = search rules in
    member.first_after (matching_seconds (g.S.CivilSeconds.has c.args.set.now)) (is_match (g.S.CivilSeconds.has c.args.set.now)) (g.C.Clock.offsets c.args.clock.now) (member.sets-match (g.S.CivilSeconds.has c.args.set.now)) c.args.now.nanosecond c.reach_by-reach.result.second (Some c.due_past.result.0)
    c.reach_by-reach.ensures.reached
    (nearest_is Ahead (is_match (g.S.CivilSeconds.has c.args.set.now)) (g.C.Clock.offsets c.args.clock.now) (c.reach_by-reach.result.second +ℤ pos 1) c.in-Some.second c.due_past.result.0
    (rw (to_z-of_z fits, to_z-of_z fits-next) at c.in-Some.ensures.nearest) c.due_past.ensures.due)
