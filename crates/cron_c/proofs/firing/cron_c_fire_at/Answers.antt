use Rattle.std.proofs.Common.{w64, FitsSigned, to_z-of_z, rules}
use Rattle.cron_c.proofs.firing.cron_c_fire_at.Goals as goal

pub returns : goal.returns
returns c =
    let fits : FitsSigned w64 c.args.instant = search rules in
    (c.fire_at.result, rw (to_z-of_z fits) at c.fire_at.ensures, c.code.ensures)
