use Rattle.std.proofs.Common.{rules, FitsSigned, w64, to_z-of_z}
use Rattle.cron_clocks.proofs.offsets.Placed.precedes_end.Goals as goal

pub returns-then-first-self : goal.returns-then-first-self
returns-then-first-self c =
    let at : FitsSigned w64 c.args.self.at = search rules in
    let edge : FitsSigned w64 c.args.self.end = search rules in
    rw (to_z-of_z at, to_z-of_z edge) (search rules)
