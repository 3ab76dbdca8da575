use Rattle.std.proofs.Common.{◌≡◌, inr, rules}
use Rattle.cron_time.specs.Search.Inner.Questions.{outermost}
use Rattle.cron_time.proofs.Searches.AskedLemmas.{one_asked, outermost_finds}
use Rattle.cron_time.proofs.Searches.CarryLemmas.{both, both_parts, in_bounds, past_none, past_next}
use Rattle.cron_time.proofs.search.neighbours.nearest_past_block.Goals as goal

pub returns-in_err-past-clause-nearest : goal.returns-in_err-past-clause-nearest
returns-in_err-past-clause-nearest g c =
    let s = c.args.members.now in
    let w = g.I.Neighbours.LIMIT in
    let o = g.O.Neighbours.passes s in
    let i = g.I.Neighbours.passes s in
    rw c.from_residual.ensures (past_none c.args.way w o i (both w o i) c.args.outer (both_parts w o i) c.requires.positive
    (λ k lies. absurd (c.in_err-past.ensures k lies)))

pub returns-in_err-next-clause-nearest : goal.returns-in_err-next-clause-nearest
returns-in_err-next-clause-nearest g c =
    let s = c.args.members.now in
    let w = g.I.Neighbours.LIMIT in
    let o = g.O.Neighbours.passes s in
    let i = g.I.Neighbours.passes s in
    let end = rw c.in_ok-past.ensures at c.in_err-next.ensures.nearest in
    rw c.from_residual-in_err-next.ensures (past_none c.args.way w o i (both w o i) c.args.outer (both_parts w o i) c.requires.positive end)

pub returns-clause-nearest : goal.returns-clause-nearest
returns-clause-nearest g c =
    let s = c.args.members.now in
    let w = g.I.Neighbours.LIMIT in
    let o = g.O.Neighbours.passes s in
    let i = g.I.Neighbours.passes s in
    let next = rw c.in_ok-past.ensures at c.in_ok-next.ensures.nearest in
    let extreme = rw c.requires.width at c.extreme.ensures.extreme in
    rw c.requires.width (past_next c.args.way w o i (both w o i) c.args.outer c.in_ok-next.next c.extreme.result c.in_ok-inner.inner
    (both_parts w o i) c.requires.positive next extreme c.in_ok-inner.ensures.bound.1
    c.in_ok-inner.ensures.nearest)

pub past-requires : goal.past-requires
past-requires g c = search rules

pub branch-past-requires : goal.branch-past-requires
branch-past-requires g c κs = search rules

pub from_residual-requires : goal.from_residual-requires
from_residual-requires g c κs = search rules

pub returns-in_err-past-clause-bound : goal.returns-in_err-past-clause-bound
returns-in_err-past-clause-bound g c = search rules

pub returns-in_err-past-clause-questions : goal.returns-in_err-past-clause-questions
returns-in_err-past-clause-questions g c = search rules

pub nearest_counted-requires : goal.nearest_counted-requires
nearest_counted-requires g c = search rules

pub branch-next-requires : goal.branch-next-requires
branch-next-requires g c κs = search rules

pub from_residual-requires-in_err-next : goal.from_residual-requires-in_err-next
from_residual-requires-in_err-next g c κs = search rules

pub returns-in_err-next-clause-bound : goal.returns-in_err-next-clause-bound
returns-in_err-next-clause-bound g c = search rules

pub returns-in_err-next-clause-questions : goal.returns-in_err-next-clause-questions
returns-in_err-next-clause-questions g c = λ sets.
    rw c.from_residual-in_err-next.ensures (inr (one_asked _ _ _ _ _ c.requires.unit (c.nearest_counted.ensures.questions sets)))

pub extreme-requires : goal.extreme-requires
extreme-requires g c = search rules

pub nearest_counted-requires-2 : goal.nearest_counted-requires-2
nearest_counted-requires-2 g c = search rules

pub branch-inner-requires : goal.branch-inner-requires
branch-inner-requires g c κs = search rules

pub from_residual-requires-in_err-inner : goal.from_residual-requires-in_err-inner
from_residual-requires-in_err-inner g c κs = search rules

pub returns-in_err-inner-clause-nearest : goal.returns-in_err-inner-clause-nearest
returns-in_err-inner-clause-nearest g c = search rules

pub returns-in_err-inner-clause-bound : goal.returns-in_err-inner-clause-bound
returns-in_err-inner-clause-bound g c = search rules

pub returns-in_err-inner-clause-questions : goal.returns-in_err-inner-clause-questions
returns-in_err-inner-clause-questions g c = λ sets.
    let full = g.met.I.Neighbours.filled c.args.members.now sets in
    let start : c.extreme.result ≡ outermost c.args.way g.I.Neighbours.LIMIT = rw c.requires.width at c.extreme.ensures.value in
    outermost_finds c.args.way g.I.Neighbours.LIMIT (g.I.Neighbours.passes c.args.members.now) full
    (rw start at c.in_err-inner.ensures.nearest)

pub overflow_mul-result : goal.overflow_mul-result
overflow_mul-result g c = search rules

pub overflow_add-result : goal.overflow_add-result
overflow_add-result g c = search rules

pub returns-clause-bound : goal.returns-clause-bound
returns-clause-bound g c =
    rw c.requires.width (in_bounds g.O.Neighbours.least c.in_ok-next.next g.O.Neighbours.LIMIT g.I.Neighbours.LIMIT c.in_ok-inner.inner
    c.in_ok-next.ensures.bound.0 c.in_ok-next.ensures.bound.1 c.in_ok-inner.ensures.bound.1)

pub returns-clause-questions : goal.returns-clause-questions
returns-clause-questions g c = λ sets.
    let start : c.extreme.result ≡ outermost c.args.way g.I.Neighbours.LIMIT = rw c.requires.width at c.extreme.ensures.value in
    g.met.C.Counter.joined 1 g.I.Neighbours.parts _ _ _ (one_asked _ _ _ _ _ c.requires.unit (c.nearest_counted.ensures.questions sets))
    (c.nearest_counted-2.ensures.outermost sets start)
