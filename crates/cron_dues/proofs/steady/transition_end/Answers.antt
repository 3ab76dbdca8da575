use Rattle.std.proofs.Common.{rules, FitsSigned, w64, to_z-of_z, arith}
use Rattle.jiff_core.proofs.SignedLemmas.{signed_casts}
use Rattle.cron_dues.proofs.KeptLemmas.{short_of, short_of_none}
use Rattle.cron_dues.proofs.steady.transition_end.Goals as goal

pub returns-in_default-clause-untouched : goal.returns-in_default-clause-untouched
returns-in_default-clause-untouched c = λ k low high.
    short_of_none _ k (rw (c.in_default.is, c.requires.at) at c.next_transition.ensures)

pub returns-then-whole-second-clause-untouched : goal.returns-then-whole-second-clause-untouched
returns-then-whole-second-clause-untouched c = λ k low high. absurd (omega (arith, signed_casts, c.requires.bound))

pub returns-clause-untouched : goal.returns-clause-untouched
returns-clause-untouched c = λ k low high.
    let next = rw (c.in-Some.is, c.requires.at) at c.next_transition.ensures in
    let fits : FitsSigned w64 c.floor_second-whole.result = search rules in
    let fits-end : FitsSigned w64 c.lesser.result = search rules in
    let one = rw (to_z-of_z fits) at c.lesser.ensures.one in
    let below = rw (to_z-of_z fits-end) at high in
    short_of _ c.in-Some.transition c.args.second k c.floor_second-whole.result next c.floor_second-whole.ensures (omega (arith, signed_casts))
