use Rattle.std.proofs.Common.{rules, ◌≡◌, Bool, true, false, ℤ, ◌≤ℤ◌, ◌<ℤ◌, Some, None, FitsSigned, w64, to_z-of_z, sym, subst, ◌∙◌, arith}
use Rattle.std.specs.Prelude.{not}
use Rattle.std.proofs.lemmas.Int.{ints, clamps}
use Rattle.cron_windows.specs.Windows.{AllAre, LastsSince, LastsUntil, is_open}
use Rattle.cron_windows.proofs.ClosingLemmas.{closing-by_is}
use Rattle.cron_windows.proofs.WindowLemmas as windows
use Rattle.cron_windows.proofs.windows.Windows.closed_end.Goals as goal

pub returns-in-Some : goal.returns-in-Some
returns-in-Some g c =
    let fits-second : FitsSigned w64 c.args.second = search rules in
    let fits-fire : FitsSigned w64 c.in-Some.fire = search rules in
    let next = rw (to_z-of_z fits-second) at c.in-Some.ensures in
    rw (to_z-of_z fits-fire)
    (subst (λ v. is_open v c.args.second ≡ false → LastsUntil (is_open v) false c.args.second c.args.to c.in-Some.fire) c.self.view_is
    (λ h. windows.until-fire _ (closing-by_is g.R.Rule.at (λ set. g.R.Rule.fires (g.C.CivilSeconds.has set) c.self.inside.clock.now) c.self.inside.closing c.self.invariant) c.args.second c.args.to c.in-Some.fire h (omega (arith, ints)) next) c.requires.is)

pub returns-in_default : goal.returns-in_default
returns-in_default g c =
    let fits-second : FitsSigned w64 c.args.second = search rules in
    let fits-to : FitsSigned w64 c.args.to = search rules in
    let next = rw (to_z-of_z fits-second) at c.in-Some.ensures in
    rw (to_z-of_z fits-to)
    (subst (λ v. is_open v c.args.second ≡ false → LastsUntil (is_open v) false c.args.second c.args.to c.args.to) c.self.view_is
    (λ h. windows.until-late _ (closing-by_is g.R.Rule.at (λ set. g.R.Rule.fires (g.C.CivilSeconds.has set) c.self.inside.clock.now) c.self.inside.closing c.self.invariant) c.args.second c.args.to c.in-Some.fire h c.requires.later (omega (arith, ints)) next) c.requires.is)

pub returns-in_default-2 : goal.returns-in_default-2
returns-in_default-2 g c =
    let fits-second : FitsSigned w64 c.args.second = search rules in
    let fits-to : FitsSigned w64 c.args.to = search rules in
    let next = rw (to_z-of_z fits-second) at c.in_default.ensures in
    rw (to_z-of_z fits-to)
    (subst (λ v. is_open v c.args.second ≡ false → LastsUntil (is_open v) false c.args.second c.args.to c.args.to) c.self.view_is
    (λ h. windows.until-none _ (closing-by_is g.R.Rule.at (λ set. g.R.Rule.fires (g.C.CivilSeconds.has set) c.self.inside.clock.now) c.self.inside.closing c.self.invariant) c.args.second c.args.to h c.requires.later next) c.requires.is)
