use Rattle.std.proofs.Common.{◌≡◌}
use Rattle.jiff.specs.Words.{plain_zone}
use Rattle.cron_c.specs.Dues.{FollowsDue}
use Rattle.cron_c.specs.Structs.{seconds_of_struct}
use Rattle.cron_c.proofs.Dues.{in_zone}
use Rattle.cron_c.proofs.rule_dues.due_past.Goals as goal

pub returns : goal.returns
returns c =
    in_zone c.args.zone.now (plain_zone c.in-Some.zone)
    (FollowsDue (seconds_of_struct c.args.schedule.now) c.args.item.now c.due_past.new.item)
    (c.due_past.new.item ≡ c.args.item.now) c.due_past.result c.in-Some.ensures (λ f. f) (rw c.fields_of.ensures at c.due_past.ensures)
