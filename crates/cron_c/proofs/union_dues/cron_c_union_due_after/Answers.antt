use Rattle.std.proofs.Common.{w64, FitsSigned, to_z-of_z, rules}
use Rattle.cron_c.proofs.union_dues.cron_c_union_due_after.Goals as goal

pub returns : goal.returns
returns c =
    let fits-instant : FitsSigned w64 c.args.instant = search rules in
    (c.due_after.result, rw (to_z-of_z fits-instant) at c.due_after.ensures, c.code.ensures)
