use Rattle.std.proofs.Common.{w64, FitsSigned, to_z-of_z, rules}
use Rattle.cron_c.proofs.history_calls.cron_c_history_fire_after.Goals as goal

pub returns : goal.returns
returns c =
    let instant : FitsSigned w64 c.args.instant = search rules in
    (c.fire_after.result, rw (c.fields_of.ensures, to_z-of_z instant) at c.fire_after.ensures, c.code.ensures)
