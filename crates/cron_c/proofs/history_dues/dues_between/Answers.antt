use Rattle.std.proofs.Common.{◌≡◌, FitsSigned, w64, to_z-of_z, rules}
use Rattle.cron_c.specs.Dues.{RunsDueBetween}
use Rattle.cron_c.proofs.HistoryClockLemmas.{in_history}
use Rattle.cron_c.proofs.history_dues.dues_between.Goals as goal

pub returns : goal.returns
returns g c =
    let fits-last : FitsSigned w64 c.args.last = search rules in
    let fits-now : FitsSigned w64 c.args.now = search rules in
    in_history c.args.eras.now c.in-Some.clock.eras.now c.in-Some.clock.history
    (RunsDueBetween (g.S.CivilSeconds.has c.args.set.now) c.args.last c.args.now c.args.items.now c.dues_between.new.items c.dues_between.new.count)
    ((c.dues_between.new.items ≡ c.args.items.now) × (c.dues_between.new.count ≡ 0)) c.dues_between.result c.in-Some.ensures.0 c.in-Some.ensures.1 c.in-Some.clock.some (λ (from, to, f). f) (rw (to_z-of_z fits-last, to_z-of_z fits-now) at c.dues_between.ensures)
