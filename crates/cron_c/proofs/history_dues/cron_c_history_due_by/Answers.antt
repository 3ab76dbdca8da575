use Rattle.std.proofs.Common.{w64, FitsSigned, to_z-of_z, rules}
use Rattle.cron_c.proofs.history_dues.cron_c_history_due_by.Goals as goal

pub returns : goal.returns
returns c =
    let fits-instant : FitsSigned w64 c.args.instant = search rules in
    (c.due_by.result, rw (c.fields_of.ensures, to_z-of_z fits-instant) at c.due_by.ensures, c.code.ensures)
