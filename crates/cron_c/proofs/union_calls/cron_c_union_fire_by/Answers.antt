use Rattle.std.proofs.Common.{w64, FitsSigned, to_z-of_z, rules}
use Rattle.cron_c.proofs.union_calls.cron_c_union_fire_by.Goals as goal

pub returns : goal.returns
returns c =
    let instant : FitsSigned w64 c.args.instant = search rules in
    (c.fire_by.result, rw (to_z-of_z instant) at c.fire_by.ensures, c.code.ensures)
