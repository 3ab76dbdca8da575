use Rattle.std.proofs.Common.{w64, FitsSigned, to_z-of_z, rules}
use Rattle.cron_c.proofs.listing.cron_c_list_before.Goals as goal

pub returns : goal.returns
returns c =
    let fits : FitsSigned w64 c.args.instant = search rules in
    (c.list.result, rw (to_z-of_z fits) at c.list.ensures, c.code.ensures)
