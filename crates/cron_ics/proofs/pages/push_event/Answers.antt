use Rattle.std.proofs.Common.{rules, FitsSigned, to_z-of_z, w64}
use Rattle.cron_ics.proofs.pages.push_event.Goals as goal

pub returns : goal.returns
returns c =
    let fits-from : FitsSigned w64 c.args.span.now.from = search rules in
    let fits-until : FitsSigned w64 c.args.span.now.until = search rules in
    rw (to_z-of_z fits-from, to_z-of_z fits-until) at c.push_span.ensures
