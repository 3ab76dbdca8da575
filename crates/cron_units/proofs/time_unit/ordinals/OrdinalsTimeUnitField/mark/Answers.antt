use Rattle.std.proofs.Common.{sym, ap, Option, List, ℕ}
use Rattle.std.specs.Prelude.{is_some}
use Rattle.cron_units.proofs.time_unit.ordinals.OrdinalsTimeUnitField.mark.Goals as goal

pub returns-clause-mark : goal.returns-clause-mark
returns-clause-mark g c = sym (ap (λ (name : Option (List ℕ)). is_some name) g.met.U.UnitTable.unmarked)
