use Rattle.std.proofs.Common.{FitsSigned, rules, to_z-of_z, w64}
use Rattle.cron_days.proofs.MovedLemmas.{past-found, past-lost, past-no_time, past-none}
use Rattle.cron_days.proofs.moved.Moved.past_day.Goals as goal

pub returns-in_err-next-clause-nearest : goal.returns-in_err-next-clause-nearest
returns-in_err-next-clause-nearest g c =
    let set = c.args.self.now in
    let row = c.sources_of-sources.result in
    let fits : FitsSigned w64 c.past_days.result = search rules in
    rw c.from_residual.ensures (past-none set.way (g.D.Days.allows set.days) (g.S.CivilSeconds.has set.seconds) c.args.target row.first row.last c.sources_of-sources.ensures c.args.way
    (rw (to_z-of_z fits, c.past_days.ensures) at c.in_err-next.ensures.nearest))

pub returns-in_err-day-clause-nearest : goal.returns-in_err-day-clause-nearest
returns-in_err-day-clause-nearest g c =
    let set = c.args.self.now in
    let row = c.sources_of-sources.result in
    let fits : FitsSigned w64 c.past_days.result = search rules in
    let fits_day : FitsSigned w64 c.from.result = search rules in
    rw c.from_residual-in_err-day.ensures (past-lost set.way (g.D.Days.allows set.days) (g.S.CivilSeconds.has set.seconds) c.args.target row.first row.last c.sources_of-sources.ensures
    c.args.way c.in_ok-next.next (rw (to_z-of_z fits, c.past_days.ensures) at c.in_ok-next.ensures.nearest) (rw (to_z-of_z fits_day, c.from.ensures) at c.in_err-day.ensures.nearest))

pub returns-in_err-time-clause-nearest : goal.returns-in_err-time-clause-nearest
returns-in_err-time-clause-nearest g c =
    let set = c.args.self.now in
    let row = c.sources_of-sources.result in
    let fits : FitsSigned w64 c.past_days.result = search rules in
    let fits_day : FitsSigned w64 c.from.result = search rules in
    absurd (past-no_time set.way (g.D.Days.allows set.days) (g.S.CivilSeconds.has set.seconds) c.args.target row.first row.last c.sources_of-sources.ensures
    c.args.way c.in_ok-next.next (rw (to_z-of_z fits, c.past_days.ensures) at c.in_ok-next.ensures.nearest) c.in_ok-day.day (rw (to_z-of_z fits_day, c.from.ensures) at c.in_ok-day.ensures.nearest)
    (rw c.first_time.ensures.time at c.in_err-time.ensures.nearest))

pub returns-clause-nearest : goal.returns-clause-nearest
returns-clause-nearest g c =
    let set = c.args.self.now in
    let row = c.sources_of-sources.result in
    let fits : FitsSigned w64 c.past_days.result = search rules in
    let fits_day : FitsSigned w64 c.from.result = search rules in
    past-found set.way (g.D.Days.allows set.days) (g.S.CivilSeconds.has set.seconds) c.args.target row.first row.last c.sources_of-sources.ensures
    c.args.way c.in_ok-next.next (rw (to_z-of_z fits, c.past_days.ensures) at c.in_ok-next.ensures.nearest) c.in_ok-day.day (rw (to_z-of_z fits_day, c.from.ensures) at c.in_ok-day.ensures.nearest)
    c.in_ok-time.time (rw c.first_time.ensures.time at c.in_ok-time.ensures.nearest)
