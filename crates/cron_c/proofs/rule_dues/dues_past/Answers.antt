use Rattle.std.proofs.Common.{◌≡◌, FitsSigned, w64, to_z-of_z, rules}
use Rattle.jiff.specs.Words.{plain_zone}
use Rattle.cron_c.specs.Dues.{RunsDuePast}
use Rattle.cron_c.specs.Structs.{seconds_of_struct}
use Rattle.cron_c.proofs.Dues.{in_zone}
use Rattle.cron_c.proofs.rule_dues.dues_past.Goals as goal

pub returns : goal.returns
returns c =
    let fits-now : FitsSigned w64 c.args.now = search rules in
    in_zone c.args.zone.now (plain_zone c.in-Some.zone)
    (RunsDuePast (seconds_of_struct c.args.schedule.now) c.args.item.now c.args.now c.args.items.now c.dues_past.new.items c.dues_past.new.count)
    ((c.dues_past.new.items ≡ c.args.items.now) × (c.dues_past.new.count ≡ 0)) c.dues_past.result c.in-Some.ensures (λ (d, is, to, f). f) (rw (c.fields_of.ensures, to_z-of_z fits-now) at c.dues_past.ensures)
