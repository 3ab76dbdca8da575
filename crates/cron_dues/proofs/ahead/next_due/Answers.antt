use Rattle.std.proofs.Common.{rules, FitsSigned, w64, to_z-of_z}
use Rattle.cron_dues.proofs.AheadLemmas.{next_is}
use Rattle.cron_dues.proofs.ahead.next_due.Goals as goal

pub returns-clause-next : goal.returns-clause-next
returns-clause-next g c =
    let fits : FitsSigned w64 c.args.from = search rules in
    let near = rw (to_z-of_z fits) at c.in-Some.ensures.nearest in
    next_is (g.S.CivilSeconds.has c.args.set.now) (g.C.Clock.offsets c.args.clock.now) c.args.from c.in-Some.second c.due_ahead.result c.due_ahead.new.known near
    c.due_ahead.ensures.due c.due_ahead.ensures.known
