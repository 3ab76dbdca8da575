use Rattle.std.proofs.Common.{arith}
use Rattle.jiff_core.proofs.SignedLemmas.{signed_arith}
use Rattle.cron_clocks.proofs.rule.transitions_around.Goals as goal

pub returns-clause-low : goal.returns-clause-low
returns-clause-low c =
    let low = c.year_of.ensures.year.low in
    omega (arith, signed_arith, c.transitions_of.ensures.first, low)

pub returns-clause-high : goal.returns-clause-high
returns-clause-high c =
    let high = c.year_of.ensures.year.high in
    omega (arith, signed_arith, c.transitions_of.ensures.end, high)
