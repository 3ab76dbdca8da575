use Rattle.std.proofs.Common.{FitsSigned, rules, to_z-of_z, w64}
use Rattle.cron_days.proofs.MovedLemmas.{from-here, from-none, from-past}
use Rattle.cron_days.proofs.moved.Moved.nearest_from.Goals as goal

pub returns-in_err-day-clause-nearest : goal.returns-in_err-day-clause-nearest
returns-in_err-day-clause-nearest g c =
    let set = c.args.self.now in
    let fits : FitsSigned w64 c.from.result = search rules in
    rw c.from_residual.ensures (from-none set.way (g.D.Days.allows set.days) (g.S.CivilSeconds.has set.seconds) c.args.way c.args.start c.requires
    (rw (to_z-of_z fits, c.from.ensures) at c.in_err-day.ensures.nearest))

pub returns-in-Some-clause-nearest : goal.returns-in-Some-clause-nearest
returns-in-Some-clause-nearest g c =
    let set = c.args.self.now in
    let fits : FitsSigned w64 c.from.result = search rules in
    from-here set.way (g.D.Days.allows set.days) (g.S.CivilSeconds.has set.seconds) c.args.way c.args.start c.requires c.in_ok-day.day c.entry_of-time.result
    (rw (to_z-of_z fits, c.from.ensures) at c.in_ok-day.ensures.nearest)
    c.entry_of-time.ensures.own c.entry_of-time.ensures.other c.in-Some.time c.in-Some.ensures.nearest

pub returns-in-None-clause-nearest : goal.returns-in-None-clause-nearest
returns-in-None-clause-nearest g c =
    let set = c.args.self.now in
    let fits : FitsSigned w64 c.from.result = search rules in
    from-past set.way (g.D.Days.allows set.days) (g.S.CivilSeconds.has set.seconds) c.args.way c.args.start c.requires c.in_ok-day.day c.entry_of-time.result
    (rw (to_z-of_z fits, c.from.ensures) at c.in_ok-day.ensures.nearest)
    c.entry_of-time.ensures.own c.entry_of-time.ensures.other c.past_day.result c.in-None.ensures.nearest c.past_day.ensures.nearest
