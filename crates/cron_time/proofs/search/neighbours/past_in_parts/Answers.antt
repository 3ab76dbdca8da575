use Rattle.cron_time.proofs.Searches.CarryLemmas.{past_in, past_out}
use Rattle.cron_time.proofs.search.neighbours.past_in_parts.Goals as goal

pub returns-in-Some-clause-nearest : goal.returns-in-Some-clause-nearest
returns-in-Some-clause-nearest g c =
    let s = c.args.members.now in
    rw c.requires.width (past_in c.args.way g.I.Neighbours.LIMIT (g.O.Neighbours.passes s) (g.I.Neighbours.passes s) c.args.from c.in-Some.rest
    c.requires.positive c.requires.matching (rw c.in-Some.is at c.requires.inner_bound) (rw c.in-Some.is at c.requires.inner))

pub returns-clause-nearest : goal.returns-clause-nearest
returns-clause-nearest g c =
    let s = c.args.members.now in
    let past = rw c.requires.width at c.nearest_past_block.ensures.nearest in
    past_out c.args.way g.I.Neighbours.LIMIT (g.O.Neighbours.passes s) (g.I.Neighbours.passes s) c.args.from _ c.requires.positive
    (rw c.in_default.is at c.requires.inner) past
