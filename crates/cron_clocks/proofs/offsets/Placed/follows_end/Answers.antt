use Rattle.std.proofs.Common.{◌-ℤ◌, rules, FitsSigned, w64, to_z-of_z}
use Rattle.cron_clocks.proofs.offsets.Placed.follows_end.Goals as goal

pub returns-then-self : goal.returns-then-self
returns-then-self c =
    let at : FitsSigned w64 c.args.self.at = search rules in
    let edge : FitsSigned w64 c.args.self.end = search rules in
    let saving : FitsSigned w64 c.args.self.saving = search rules in
    let moved : FitsSigned w64 (c.args.self.end -ℤ c.args.self.saving) = search rules in
    rw (to_z-of_z at, to_z-of_z edge, to_z-of_z saving, to_z-of_z moved) (search rules)
