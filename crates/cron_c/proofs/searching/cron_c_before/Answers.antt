use Rattle.std.proofs.Common.{w64, FitsSigned, to_z-of_z, rules}
use Rattle.cron_c.proofs.searching.cron_c_before.Goals as goal

pub returns : goal.returns
returns c =
    let fits : FitsSigned w64 c.args.instant = search rules in
    (c.search.result, rw (to_z-of_z fits) at c.search.ensures, c.code.ensures)
