use Rattle.std.proofs.Common.{arith}
use Rattle.jiff_core.proofs.SignedLemmas.{signed_arith}
use Rattle.cron_clocks.proofs.SeasonLemmas.{kept_down, kept_up}
use Rattle.cron_clocks.proofs.season.season_bounds_among.Goals as goal

pub returns-clause-outer_end : goal.returns-clause-outer_end
returns-clause-outer_end c = kept_down c.args.earlier.first (omega (arith, signed_arith)) (omega (arith, signed_arith))

pub returns-clause-inner_first : goal.returns-clause-inner_first
returns-clause-inner_first c = kept_up c.args.earlier.last (omega (arith, signed_arith)) (omega (arith, signed_arith))

pub returns-clause-inner_end : goal.returns-clause-inner_end
returns-clause-inner_end c = kept_down c.args.later.first (omega (arith, signed_arith)) (omega (arith, signed_arith))

pub returns-clause-outer_first : goal.returns-clause-outer_first
returns-clause-outer_first c = kept_up c.args.later.last (omega (arith, signed_arith)) (omega (arith, signed_arith))
