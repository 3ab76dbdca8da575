use Rattle.std.proofs.Common.{◌≡◌, FitsSigned, w64, to_z-of_z, rules}
use Rattle.cron_dues.specs.Clock.FirstDues.{IsLastDueBy}
use Rattle.cron_c.specs.Dues.{FindsDue}
use Rattle.cron_c.proofs.HistoryClockLemmas.{in_history}
use Rattle.cron_c.proofs.history_dues.due_by.Goals as goal

pub returns : goal.returns
returns g c =
    let fits-second : FitsSigned w64 c.args.second = search rules in
    in_history c.args.eras.now c.in-Some.clock.eras.now c.in-Some.clock.history
    (FindsDue IsLastDueBy (g.S.CivilSeconds.has c.args.set.now) c.args.second c.args.item.now c.due_by.new.item)
    (c.due_by.new.item ≡ c.args.item.now) c.due_by.result c.in-Some.ensures.0 c.in-Some.ensures.1 c.in-Some.clock.some (λ f. f) (rw (to_z-of_z fits-second) at c.due_by.ensures)
