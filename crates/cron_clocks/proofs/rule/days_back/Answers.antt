use Rattle.std.proofs.Common.{arith}
use Rattle.jiff_core.specs.Calendar.{weekday_number}
use Rattle.jiff_core.proofs.SignedLemmas.{signed_casts}
use Rattle.cron_clocks.proofs.rule.days_back.Goals as goal

pub returns-clause-value : goal.returns-clause-value
unfolding weekday_number
returns-clause-value c = omega (arith, signed_casts)
