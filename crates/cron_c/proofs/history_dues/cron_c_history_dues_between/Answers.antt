use Rattle.std.proofs.Common.{w64, FitsSigned, to_z-of_z, rules}
use Rattle.cron_c.proofs.history_dues.cron_c_history_dues_between.Goals as goal

pub returns : goal.returns
returns c =
    let fits-last : FitsSigned w64 c.args.last = search rules in
    let fits-now : FitsSigned w64 c.args.now = search rules in
    (c.dues_between.result, rw (c.fields_of.ensures, to_z-of_z fits-last, to_z-of_z fits-now) at c.dues_between.ensures, c.code.ensures)
