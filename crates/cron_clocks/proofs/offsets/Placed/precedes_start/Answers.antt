use Rattle.std.proofs.Common.{rules, FitsSigned, w64, to_z-of_z}
use Rattle.cron_clocks.proofs.offsets.Placed.precedes_start.Goals as goal

pub returns-then-first-self : goal.returns-then-first-self
returns-then-first-self c =
    let at : FitsSigned w64 c.args.self.at = search rules in
    let edge : FitsSigned w64 c.args.self.start = search rules in
    rw (to_z-of_z at, to_z-of_z edge) (search rules)

pub overflow_add-first : goal.overflow_add-first
overflow_add-first c = search rules

pub returns-else-first-self : goal.returns-else-first-self
returns-else-first-self c = search rules
