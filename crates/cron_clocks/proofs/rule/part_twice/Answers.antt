use Rattle.std.proofs.Common.{arith}
use Rattle.jiff_core.proofs.SignedLemmas.{signed_casts}
use Rattle.cron_clocks.proofs.SpanLemmas.{narrowed}
use Rattle.cron_clocks.proofs.rule.part_twice.Goals as goal

pub returns-clause-one : goal.returns-clause-one
returns-clause-one c = narrowed _ _ _ _ _ c.args.one c.part.ensures.unparted c.part-2.ensures.narrowed (omega (arith, signed_casts))
