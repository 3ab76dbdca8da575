use Rattle.std.proofs.Common.{rules, pos, ◌+ℤ◌, FitsSigned, w64, to_z-of_z, refl, arith}
use Rattle.std.proofs.lemmas.Int.{by_lt_z}
use Rattle.jiff_core.proofs.SignedLemmas.{signed_arith}
use Rattle.cron_seconds.proofs.IntLemmas.{int_le-false}
use Rattle.cron_dues.proofs.AheadLemmas.{due_in_span}
use Rattle.cron_dues.proofs.ahead.known_of.Goals as goal

pub returns-clause-due : goal.returns-clause-due
returns-clause-due g c =
    let fits-from : FitsSigned w64 c.args.span.now.from = search rules in
    let fits-end : FitsSigned w64 c.args.span.now.steady.end = search rules in
    let fits : FitsSigned w64 c.shown.result = search rules in
    let fits-2 : FitsSigned w64 c.shown-2.result = search rules in
    let low = rw (to_z-of_z fits, c.shown.ensures.value, to_z-of_z fits-from) at c.clamp.ensures.low in
    let high = rw (to_z-of_z fits, c.shown.ensures.value, to_z-of_z fits-from) at c.clamp.ensures.high in
    let end = rw (to_z-of_z fits-2, c.shown-2.ensures.value, to_z-of_z fits-end) at c.clamp-2.ensures.high in
    due_in_span (g.C.Clock.offsets c.args._clock.now) c.args.second c.args.span.now.from c.args.span.now.steady
    (record { first = c.clamp.result; end = c.clamp-2.result; offset = c.args.span.now.steady.offset })
    c.requires.range c.requires.ahead refl low high end (search rules) (search rules)

pub returns-clause-own : goal.returns-clause-own
returns-clause-own g c =
    let fits-end : FitsSigned w64 c.args.span.now.steady.end = search rules in
    let fits : FitsSigned w64 c.shown-2.result = search rules in
    let low = rw (to_z-of_z fits, c.shown-2.ensures.value, to_z-of_z fits-end) at c.clamp-2.ensures.low in
    let later = int_le-false (c.args.span.now.steady.end +ℤ c.args.span.now.steady.offset.seconds) (pos c.args.second) c.requires.shown in
    by_lt_z (pos c.args.second) (pos c.clamp-2.result)
    (λ less. omega (arith, signed_arith))
    (λ ge. let short = low c.args.second (omega (arith, signed_arith)) (omega (arith, c.requires.range)) in absurd (omega (arith, signed_arith)))
