use Rattle.std.proofs.Common.{w64, FitsSigned, to_z-of_z, rules}
use Rattle.cron_c.proofs.history_calls.cron_c_history_fires_between.Goals as goal

pub returns : goal.returns
returns c =
    let last : FitsSigned w64 c.args.last = search rules in
    let now : FitsSigned w64 c.args.now = search rules in
    (c.run_between.result, rw (c.fields_of.ensures, to_z-of_z last, to_z-of_z now) at c.run_between.ensures, c.code.ensures)
