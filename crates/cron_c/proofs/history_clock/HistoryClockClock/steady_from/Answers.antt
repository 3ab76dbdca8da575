use Rattle.std.proofs.Common.{FitsSigned, w64, to_z-of_z, rules}
use Rattle.cron_c.proofs.HistoryClockLemmas.{clock_kept, place_within}
use Rattle.cron_c.proofs.history_clock.HistoryClockClock.steady_from.Goals as goal

pub returns-clause-kept : goal.returns-clause-kept
returns-clause-kept c =
    let fits : FitsSigned w64 c.args.second = search rules in
    let fits-end : FitsSigned w64 c.end_of_era.result = search rules in
    let fits-most : FitsSigned w64 c.steady_in_era-steady.result.end = search rules in
    let begun = rw (to_z-of_z fits) at c.place_of-at.ensures.begun in
    let kept = rw (to_z-of_z fits) at c.steady_in_era-steady.ensures.kept in
    let within = place_within c.args.self.now.eras.now c.place_of-at.result c.args.second c.args.self.now.some begun in
    rw (to_z-of_z fits-end) (clock_kept c.args.self.now.eras.now c.args.self.now.history c.place_of-at.result c.args.second c.end_of_era.result
    c.steady_in_era-steady.result.end c.steady_in_era-steady.result.offset.seconds within begun kept
    (rw (to_z-of_z fits-most) at c.end_of_era.ensures.most) c.end_of_era.ensures.held)
