use Rattle.std.proofs.Common.{w64, FitsSigned, to_z-of_z, rules}
use Rattle.cron_c.proofs.agenda.cron_c_agenda_next.Goals as goal

pub returns : goal.returns
returns c =
    let fits : FitsSigned w64 c.args.now = search rules in
    (c.take_first.result, rw (to_z-of_z fits) at c.take_first.ensures, c.code.ensures)
