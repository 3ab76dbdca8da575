use Rattle.std.proofs.Common.{◌≡◌, FitsSigned, w64, to_z-of_z, rules}
use Rattle.cron_c.specs.Dues.{RunsDuePast}
use Rattle.cron_c.proofs.HistoryClockLemmas.{in_history}
use Rattle.cron_c.proofs.history_dues.dues_past.Goals as goal

pub returns : goal.returns
returns g c =
    let fits-now : FitsSigned w64 c.args.now = search rules in
    in_history c.args.eras.now c.in-Some.clock.eras.now c.in-Some.clock.history
    (RunsDuePast (g.S.CivilSeconds.has c.args.set.now) c.args.item.now c.args.now c.args.items.now c.dues_past.new.items c.dues_past.new.count)
    ((c.dues_past.new.items ≡ c.args.items.now) × (c.dues_past.new.count ≡ 0)) c.dues_past.result c.in-Some.ensures.0 c.in-Some.ensures.1 c.in-Some.clock.some (λ (d, is, to, f). f) (rw (to_z-of_z fits-now) at c.dues_past.ensures)
