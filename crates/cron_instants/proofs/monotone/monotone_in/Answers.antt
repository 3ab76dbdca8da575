use Rattle.std.proofs.Common.{◌≡◌, ◌∙◌, ◌+ℤ◌, ◌-ℤ◌, ◌≤ℤ◌, pos, of_z, to_z, w64, FitsSigned, to_z-of_z, arith, rules}
use Rattle.jiff_core.proofs.SignedLemmas.{signed_arith, signed_casts}
use Rattle.cron_moments.specs.Civil.{seconds_in_range}
use Rattle.cron_instants.specs.OffsetRange.{width}
use Rattle.cron_instants.proofs.OrderedLemmas.{at_most_lesser, monotone_before, monotone_far, monotone_past}
use Rattle.cron_instants.proofs.monotone.monotone_in.Goals as goal

pub overflow_sub-past : goal.overflow_sub-past
overflow_sub-past c =
    let bound = c.width-width.ensures.bound in
    omega (arith, signed_casts, bound.0, bound.1, c.from-at.ensures, c.requires.range)

pub monotone_up_to-requires-clause-end : goal.monotone_up_to-requires-clause-end
monotone_up_to-requires-clause-end c =
    let fits-end : FitsSigned w64 c.min-end.result = search rules in
    let from : to_z w64 (of_z w64 c.from.result) ≡ pos c.args.stretch.now.end = omega (arith, signed_casts, c.from.ensures, c.ranges) in
    let end = rw from at c.min-end.ensures in
    rw (to_z-of_z fits-end) (at_most_lesser (pos 0) (pos c.args.stretch.now.end) (pos seconds_in_range) c.min-end.result end.value (omega (arith, signed_arith)) (omega (arith, signed_arith)), end.other_bound)

pub returns-then-end-offset_range : goal.returns-then-end-offset_range
returns-then-end-offset_range c z offset_range known =
    let fits-end : FitsSigned w64 c.min-end.result = search rules in
    let fits-edge : FitsSigned w64 c.args.offset_range.edge = search rules in
    let from : to_z w64 (of_z w64 c.from.result) ≡ pos c.args.stretch.now.end = omega (arith, signed_casts, c.from.ensures, c.ranges) in
    let end = rw from at c.min-end.ensures in
    let upto = rw (to_z-of_z fits-end) at c.monotone_up_to.ensures.end in
    let one = rw c.in_ok-offset.was at c.one_offset.ensures in
    let value = end.value in
    let above = at_most_lesser (pos c.args.second +ℤ pos 1) (pos c.args.stretch.now.end) (pos seconds_in_range) c.min-end.result value
    (omega (arith, signed_arith, c.requires.high)) (omega (arith, signed_arith, c.requires.range)) in
    let short = end.other_bound in
    let far : (c.min-end.result +ℤ pos 187_200) ≤ℤ c.args.offset_range.edge =
    omega (arith, signed_casts, above, short, rw (to_z-of_z fits-edge) at c.if-end-offset_range.true) in
    monotone_far z c.args.offset_range c.args.stretch.now c.in_ok-offset.offset offset_range known one.0 one.1 c.args.second c.requires.low c.requires.high
    c.min-end.result (omega (arith, signed_arith, above)) end.self_bound short far c.monotone_up_to.result c.monotone_up_to.ensures.offset
    (λ k from. let before = upto k from in omega (arith, signed_casts, before))

pub monotone_up_to-requires-then-at-offset_range-clause-end : goal.monotone_up_to-requires-then-at-offset_range-clause-end
monotone_up_to-requires-then-at-offset_range-clause-end c =
    let fits : FitsSigned w64 c.min.result = search rules in
    let fits-end : FitsSigned w64 c.min-end.result = search rules in
    let fits-edge : FitsSigned w64 c.args.offset_range.edge = search rules in
    let from : to_z w64 (of_z w64 c.from.result) ≡ pos c.args.stretch.now.end = omega (arith, signed_casts, c.from.ensures, c.ranges) in
    let at : to_z w64 (of_z w64 c.from-at.result) ≡ pos c.args.second = omega (arith, signed_casts, c.from-at.ensures, c.requires) in
    let end = rw from at c.min-end.ensures in
    let low-end = at_most_lesser (pos 0) (pos c.args.stretch.now.end) (pos seconds_in_range) c.min-end.result end.value (omega (arith, signed_arith)) (omega (arith, signed_arith)) in
    let least = rw (to_z-of_z fits-end, to_z-of_z fits-edge) at c.min.ensures in
    let short = rw (to_z-of_z fits-edge, at) at c.if-at-offset_range.true in
    let low = at_most_lesser (pos 0) c.min-end.result c.args.offset_range.edge c.min.result least.value low-end (omega (arith, signed_casts)) in
    rw (to_z-of_z fits) (low, omega (arith, signed_arith, end.other_bound, least.self_bound))

pub returns-then-at-offset_range : goal.returns-then-at-offset_range
returns-then-at-offset_range c z offset_range known =
    let fits : FitsSigned w64 c.min.result = search rules in
    let fits-width : FitsSigned w64 c.width-width.result = search rules in
    let fits-end : FitsSigned w64 c.min-end.result = search rules in
    let fits-edge : FitsSigned w64 c.args.offset_range.edge = search rules in
    let from : to_z w64 (of_z w64 c.from.result) ≡ pos c.args.stretch.now.end = omega (arith, signed_casts, c.from.ensures, c.ranges) in
    let at : to_z w64 (of_z w64 c.from-at.result) ≡ pos c.args.second = omega (arith, signed_casts, c.from-at.ensures, c.requires) in
    let short = rw (to_z-of_z fits-edge, at) at c.if-at-offset_range.true in
    let end = rw from at c.min-end.ensures in
    let least = rw (to_z-of_z fits-end, to_z-of_z fits-edge) at c.min.ensures in
    let upto = rw (to_z-of_z fits, to_z-of_z fits-width, c.width-width.ensures.value) at c.monotone_up_to-then-at-offset_range.ensures.end in
    let low = c.requires.low in
    let high = c.requires.high in
    let one = rw c.in_ok-offset.was at c.one_offset.ensures in
    monotone_before z c.args.offset_range c.args.stretch.now c.in_ok-offset.offset offset_range known one.0 one.1 c.args.second c.requires.range low high c.min.result
    (omega (arith, signed_arith, end.self_bound, least.self_bound)) (omega (arith, signed_arith, end.other_bound, least.self_bound)) c.monotone_up_to-then-at-offset_range.result c.monotone_up_to-then-at-offset_range.ensures.offset upto
    (omega (arith, signed_casts)) least.other_bound

pub monotone_up_to-requires-2-clause-end : goal.monotone_up_to-requires-2-clause-end
monotone_up_to-requires-2-clause-end c =
    let fits-end : FitsSigned w64 c.min-end.result = search rules in
    let from : to_z w64 (of_z w64 c.from.result) ≡ pos c.args.stretch.now.end = omega (arith, signed_casts, c.from.ensures, c.ranges) in
    let end = rw from at c.min-end.ensures in
    rw (to_z-of_z fits-end) (at_most_lesser (pos 0) (pos c.args.stretch.now.end) (pos seconds_in_range) c.min-end.result end.value (omega (arith, signed_arith)) (omega (arith, signed_arith)), end.other_bound)

pub returns : goal.returns
returns c z offset_range known =
    let fits-width : FitsSigned w64 c.width-width.result = search rules in
    let fits-end : FitsSigned w64 c.min-end.result = search rules in
    let fits-edge : FitsSigned w64 c.args.offset_range.edge = search rules in
    let from : to_z w64 (of_z w64 c.from.result) ≡ pos c.args.stretch.now.end = omega (arith, signed_casts, c.from.ensures, c.ranges) in
    let at : to_z w64 (of_z w64 c.from-at.result) ≡ pos c.args.second = omega (arith, signed_casts, c.from-at.ensures, c.requires) in
    let first : to_z w64 (of_z w64 c.from-2.result) ≡ pos c.args.stretch.now.first = omega (arith, signed_casts, c.from-2.ensures, c.ranges) in
    let end = rw from at c.min-end.ensures in
    let upto = rw (to_z-of_z fits-end, to_z-of_z fits-width, c.width-width.ensures.value) at c.monotone_up_to-2.ensures.end in
    let value = c.width-width.ensures.value in
    let bound = c.width-width.ensures.bound in
    let width_is : to_z w64 (of_z w64 c.width-width.result) ≡ width c.args.offset_range = to_z-of_z fits-width ∙ value in
    let past : to_z w64 (of_z w64 (to_z w64 (of_z w64 c.from-at.result) -ℤ to_z w64
    (of_z w64 c.width-width.result))) ≡ pos c.args.second -ℤ width c.args.offset_range =
    rw (at, width_is) (omega (arith, signed_casts, value, bound.0, bound.1, c.requires.range)) in
    let begun = rw (past, first) at c.if-past-from.false in
    let over = rw (past, to_z-of_z fits-edge) at c.if-past-offset_range.false in
    let low = c.requires.low in
    let high = c.requires.high in
    let one = rw c.in_ok-offset.was at c.one_offset.ensures in
    monotone_past z c.args.offset_range c.args.stretch.now c.in_ok-offset.offset offset_range known one.0 one.1 c.args.second c.requires.range low high c.min-end.result
    end.self_bound end.other_bound c.monotone_up_to-2.result c.monotone_up_to-2.ensures.offset upto
    (omega (arith, signed_casts)) (omega (arith, signed_casts))
