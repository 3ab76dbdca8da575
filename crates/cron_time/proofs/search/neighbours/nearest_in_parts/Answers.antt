use Rattle.std.proofs.Common.{◌≡◌, ◌/◌, arith, rules}
use Rattle.cron_time.specs.Search.Inner.Questions.{outermost}
use Rattle.cron_time.proofs.Searches.CarryLemmas.{Carried, both, both_parts, carry_none, carry_first, carry_past, in_bounds}
use Rattle.cron_time.proofs.Searches.AskedLemmas.{one_asked, asked_all, asked_first, asked_out, asked_past, outermost_finds, outermost_parts, start_outermost}
use Rattle.cron_time.proofs.search.neighbours.nearest_in_parts.Goals as goal

pub returns-in_err-outer-clause-nearest : goal.returns-in_err-outer-clause-nearest
returns-in_err-outer-clause-nearest g c =
    let s = c.args.members.now in
    let w = g.I.Neighbours.LIMIT in
    let o = g.O.Neighbours.passes s in
    let i = g.I.Neighbours.passes s in
    rw c.from_residual.ensures (carry_none c.args.way w o i (both w o i) c.args.from (both_parts w o i) c.requires.positive
    (rw c.requires.width at c.in_err-outer.ensures.nearest))

pub returns-in_err-outer-clause-outermost : goal.returns-in_err-outer-clause-outermost
returns-in_err-outer-clause-outermost g c = λ sets at.
    let one = g.met.O.Neighbours.filled c.args.members.now sets in
    let parts = outermost_parts c.args.way g.O.Neighbours.LIMIT g.I.Neighbours.LIMIT (omega (arith, one.1)) c.requires.positive in
    let first : c.args.from / c.args.width ≡ outermost c.args.way g.O.Neighbours.LIMIT = rw (c.requires.width, at) parts.0 in
    outermost_finds c.args.way g.O.Neighbours.LIMIT (g.O.Neighbours.passes c.args.members.now) one (rw first at c.in_err-outer.ensures.nearest)

pub returns-in-Some-clause-nearest : goal.returns-in-Some-clause-nearest
returns-in-Some-clause-nearest g c =
    let s = c.args.members.now in
    let w = g.I.Neighbours.LIMIT in
    let o = g.O.Neighbours.passes s in
    let i = g.I.Neighbours.passes s in
    let first = rw c.requires.width at c.in_ok-outer.ensures.nearest in
    let enters = rw c.requires.width at c.entry-start.ensures.enters in
    let carried : Carried c.args.way w o i (both w o i) c.args.from c.in_ok-outer.outer c.entry-start.result = record {
      split = both_parts w o i;
      positive = c.requires.positive;
      first = first;
      enters = enters;
    } in
    rw c.requires.width (carry_first c.args.way w o i (both w o i) c.args.from c.in_ok-outer.outer c.entry-start.result c.in-Some.inner carried
    c.in-Some.ensures.bound.1 c.in-Some.ensures.nearest)

pub returns-in-Some-clause-questions : goal.returns-in-Some-clause-questions
returns-in-Some-clause-questions g c = λ sets.
    asked_first _ g.met.C.Counter.joined _ _ _ _ _ _ (one_asked _ _ _ _ _ c.requires.unit (c.nearest_counted.ensures.questions sets))
    (c.in-Some.ensures.questions sets)

pub returns-in-Some-clause-outermost : goal.returns-in-Some-clause-outermost
returns-in-Some-clause-outermost g c = λ sets at.
    let one = g.met.O.Neighbours.filled c.args.members.now sets in
    let start = start_outermost c.args.way g.O.Neighbours.LIMIT g.I.Neighbours.LIMIT c.args.from c.entry-start.result (omega (arith, one.1))
    c.requires.positive at (rw c.requires.width at c.entry-start.ensures.value) in
    asked_all _ g.met.C.Counter.joined _ _ _ _ (one_asked _ _ _ _ _ c.requires.unit (c.nearest_counted.ensures.questions sets))
    (c.nearest_counted-2.ensures.outermost sets start)

pub returns-clause-nearest : goal.returns-clause-nearest
returns-clause-nearest g c =
    let s = c.args.members.now in
    let w = g.I.Neighbours.LIMIT in
    let o = g.O.Neighbours.passes s in
    let i = g.I.Neighbours.passes s in
    let first = rw c.requires.width at c.in_ok-outer.ensures.nearest in
    let enters = rw c.requires.width at c.entry-start.ensures.enters in
    let carried : Carried c.args.way w o i (both w o i) c.args.from c.in_ok-outer.outer c.entry-start.result =
    record { split = both_parts w o i; positive = c.requires.positive; first = first; enters = enters } in
    carry_past c.args.way w o i (both w o i) c.args.from c.in_ok-outer.outer c.entry-start.result _ carried
    c.in_default.ensures.nearest c.nearest_past_block.ensures.nearest

pub returns-clause-questions : goal.returns-clause-questions
returns-clause-questions g c = λ sets.
    asked_past _ g.met.C.Counter.joined _ _ _ _ _ _ (one_asked _ _ _ _ _ c.requires.unit (c.nearest_counted.ensures.questions sets))
    (c.in_default.ensures.questions sets) (c.nearest_past_block.ensures.questions sets)

pub returns-clause-outermost : goal.returns-clause-outermost
returns-clause-outermost g c = λ sets at.
    let one = g.met.O.Neighbours.filled c.args.members.now sets in
    let start = start_outermost c.args.way g.O.Neighbours.LIMIT g.I.Neighbours.LIMIT c.args.from c.entry-start.result (omega (arith, one.1))
    c.requires.positive at (rw c.requires.width at c.entry-start.ensures.value) in
    let full = g.met.I.Neighbours.filled c.args.members.now sets in
    outermost_finds c.args.way g.I.Neighbours.LIMIT (g.I.Neighbours.passes c.args.members.now) full (rw start at c.in_default.ensures.nearest)

pub nonzero_div-first : goal.nonzero_div-first
nonzero_div-first g c = search rules

pub nonzero_rem-rest : goal.nonzero_rem-rest
nonzero_rem-rest g c = search rules

pub nearest_counted-requires : goal.nearest_counted-requires
nearest_counted-requires g c = search rules

pub branch-outer-requires : goal.branch-outer-requires
branch-outer-requires g c κs = search rules

pub from_residual-requires : goal.from_residual-requires
from_residual-requires g c κs = search rules

pub returns-in_err-outer-clause-bound : goal.returns-in_err-outer-clause-bound
returns-in_err-outer-clause-bound g c = search rules

pub returns-in_err-outer-clause-questions : goal.returns-in_err-outer-clause-questions
returns-in_err-outer-clause-questions g c = λ sets.
    rw c.from_residual.ensures (asked_out _ _ _ _ _ _ c.requires.unit (c.nearest_counted.ensures.questions sets))

pub entry-start-requires-clause-rest_in : goal.entry-start-requires-clause-rest_in
entry-start-requires-clause-rest_in g c = search rules

pub entry-start-requires-clause-lies : goal.entry-start-requires-clause-lies
entry-start-requires-clause-lies g c = search rules

pub nearest_counted-requires-2 : goal.nearest_counted-requires-2
nearest_counted-requires-2 g c = search rules

pub overflow_mul-result : goal.overflow_mul-result
overflow_mul-result g c =
    let within = in_bounds g.O.Neighbours.least c.in_ok-outer.outer g.O.Neighbours.LIMIT g.I.Neighbours.LIMIT c.in-Some.inner
    c.in_ok-outer.ensures.bound.0 c.in_ok-outer.ensures.bound.1 c.in-Some.ensures.bound.1 in
    rw c.requires.width (omega (arith, within, c.requires.fits))

pub overflow_add-result : goal.overflow_add-result
overflow_add-result g c =
    let within = in_bounds g.O.Neighbours.least c.in_ok-outer.outer g.O.Neighbours.LIMIT g.I.Neighbours.LIMIT c.in-Some.inner
    c.in_ok-outer.ensures.bound.0 c.in_ok-outer.ensures.bound.1 c.in-Some.ensures.bound.1 in
    rw c.requires.width (omega (arith, within, c.requires.fits))

pub returns-in-Some-clause-bound : goal.returns-in-Some-clause-bound
returns-in-Some-clause-bound g c =
    rw c.requires.width (in_bounds g.O.Neighbours.least c.in_ok-outer.outer g.O.Neighbours.LIMIT g.I.Neighbours.LIMIT c.in-Some.inner
    c.in_ok-outer.ensures.bound.0 c.in_ok-outer.ensures.bound.1 c.in-Some.ensures.bound.1)

pub nearest_past_block-requires-clause-unit : goal.nearest_past_block-requires-clause-unit
nearest_past_block-requires-clause-unit g c = search rules

pub nearest_past_block-requires-clause-positive : goal.nearest_past_block-requires-clause-positive
nearest_past_block-requires-clause-positive g c = search rules

pub nearest_past_block-requires-clause-fits : goal.nearest_past_block-requires-clause-fits
nearest_past_block-requires-clause-fits g c = search rules

pub nearest_past_block-requires-clause-outer : goal.nearest_past_block-requires-clause-outer
nearest_past_block-requires-clause-outer g c = search rules

pub returns-clause-bound : goal.returns-clause-bound
returns-clause-bound g c = search rules
