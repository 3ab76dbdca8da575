use Rattle.std.proofs.Common.{◌≡◌, FitsSigned, w64, to_z-of_z, rules}
use Rattle.jiff.specs.Words.{plain_zone}
use Rattle.cron_dues.specs.Clock.FirstDues.{IsLastDueBy}
use Rattle.cron_c.specs.Dues.{FindsDue}
use Rattle.cron_c.specs.Structs.{seconds_of_struct}
use Rattle.cron_c.proofs.Dues.{in_zone}
use Rattle.cron_c.proofs.rule_dues.due_by.Goals as goal

pub returns : goal.returns
returns c =
    let fits-second : FitsSigned w64 c.args.second = search rules in
    in_zone c.args.zone.now (plain_zone c.in-Some.zone)
    (FindsDue IsLastDueBy (seconds_of_struct c.args.schedule.now) c.args.second c.args.item.now c.due_by.new.item)
    (c.due_by.new.item ≡ c.args.item.now) c.due_by.result c.in-Some.ensures (λ f. f) (rw (c.fields_of.ensures, to_z-of_z fits-second) at c.due_by.ensures)
