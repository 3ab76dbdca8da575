use Rattle.std.proofs.Common.{ℕ, List, ◌∙◌, ap}
use Rattle.cron_units.proofs.SetLemmas.{set_without}
use Rattle.cron_units.specs.Units.{days_of_month, with_mark}
use Rattle.cron_units.proofs.time_unit.layout.days_from_bits.Goals as goal

pub returns : goal.returns
returns c = ap (λ (xs : List ℕ). with_mark xs c.args.last_day) (c.from_bits.ensures ∙ set_without days_of_month _)
