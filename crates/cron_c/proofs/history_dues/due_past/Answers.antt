use Rattle.std.proofs.Common.{◌≡◌}
use Rattle.cron_c.specs.Dues.{FollowsDue}
use Rattle.cron_c.proofs.HistoryClockLemmas.{in_history}
use Rattle.cron_c.proofs.history_dues.due_past.Goals as goal

pub returns : goal.returns
returns g c =
    in_history c.args.eras.now c.in-Some.clock.eras.now c.in-Some.clock.history
    (FollowsDue (g.S.CivilSeconds.has c.args.set.now) c.args.item.now c.due_past.new.item)
    (c.due_past.new.item ≡ c.args.item.now) c.due_past.result c.in-Some.ensures.0 c.in-Some.ensures.1 c.in-Some.clock.some (λ f. f) c.due_past.ensures
