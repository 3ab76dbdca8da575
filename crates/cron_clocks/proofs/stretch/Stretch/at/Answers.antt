use Rattle.cron_clocks.proofs.SteadyLemmas.{steady_utc, steady_fixed}
use Rattle.cron_clocks.proofs.stretch.Stretch.at.Goals as goal

pub returns-in-UTC-clause-steady : goal.returns-in-UTC-clause-steady
returns-in-UTC-clause-steady c = steady_utc _ _ c.whole.result c.to_plain.ensures c.in-UTC.is c.whole.ensures

pub returns-in-Fixed-clause-steady : goal.returns-in-Fixed-clause-steady
returns-in-Fixed-clause-steady c =
    steady_fixed _ _ c.in-Fixed.offset c.whole-in-Fixed.result c.to_plain.ensures c.in-Fixed.is (rw c.from_plain.ensures at c.whole-in-Fixed.ensures)
