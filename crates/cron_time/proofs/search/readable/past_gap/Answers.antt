use Rattle.jiff.specs.Words.{plain_zone}
use Rattle.cron_time.proofs.Searches.GapLemmas.{day_in_gap, leads_past}
use Rattle.cron_time.proofs.search.readable.past_gap.Goals as goal

pub returns-in_err-from-clause-leads : goal.returns-in_err-from-clause-leads
returns-in_err-from-clause-leads c =
    rw c.from_residual.ensures (day_in_gap c.args.way c.args.fields.now (plain_zone c.args.zone.now) c.args.stretch.now c.args.day c.args.time
    c.requires.known c.requires.silent c.in_err-from.ensures)

pub returns-clause-leads : goal.returns-clause-leads
returns-clause-leads c =
    let past = c.in_ok-from.ensures in
    leads_past c.args.way c.args.fields.now (plain_zone c.args.zone.now) c.args.stretch.now c.args.day c.args.time c.in_ok-from.from _
    c.requires.known c.requires.silent past.1 past.2 (rw c.of-members.ensures at c.nearest.ensures.nearest)
