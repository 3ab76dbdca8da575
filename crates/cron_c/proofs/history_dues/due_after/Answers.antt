use Rattle.std.proofs.Common.{◌≡◌, FitsSigned, w64, to_z-of_z, rules}
use Rattle.cron_dues.specs.Clock.FirstDues.{IsFirstDueAfter}
use Rattle.cron_c.specs.Dues.{FindsDue}
use Rattle.cron_c.proofs.HistoryClockLemmas.{in_history}
use Rattle.cron_c.proofs.history_dues.due_after.Goals as goal

pub returns : goal.returns
returns g c =
    let fits-second : FitsSigned w64 c.args.second = search rules in
    in_history c.args.eras.now c.in-Some.clock.eras.now c.in-Some.clock.history
    (FindsDue IsFirstDueAfter (g.S.CivilSeconds.has c.args.set.now) c.args.second c.args.item.now c.due_after.new.item)
    (c.due_after.new.item ≡ c.args.item.now) c.due_after.result c.in-Some.ensures.0 c.in-Some.ensures.1 c.in-Some.clock.some (λ f. f) (rw (to_z-of_z fits-second) at c.due_after.ensures)
