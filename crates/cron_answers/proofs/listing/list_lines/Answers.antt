use Rattle.std.proofs.Common.{inr, refl}
use Rattle.cron_answers.proofs.TimedLemmas.{because}
use Rattle.cron_answers.proofs.listing.list_lines.Goals as goal

pub returns-in-Err-clause-err : goal.returns-in-Err-clause-err
returns-in-Err-clause-err g c = (
  because c.args.request.now.times c.in-Err.error _ c.trouble_of.result c.trouble_of.ensures
      (inr (inr (rw (← c.table-table.ensures, ← c.changes-changes.ensures) c.in-Err.ensures.err))),
  refl,
)
