use Rattle.std.proofs.Common.{rules, ◌≡◌, Bool, true, false, ℤ, ◌≤ℤ◌, ◌<ℤ◌, Some, None, FitsSigned, w64, to_z-of_z, sym, subst, ◌∙◌, arith}
use Rattle.std.specs.Prelude.{not}
use Rattle.std.proofs.lemmas.Int.{ints, clamps}
use Rattle.cron_windows.specs.Windows.{AllAre, LastsSince, LastsUntil, is_open}
use Rattle.cron_windows.proofs.ClosingLemmas.{closing-by_is}
use Rattle.cron_windows.proofs.WindowLemmas as windows
use Rattle.cron_windows.proofs.windows.Windows.open_until.Goals as goal

pub returns-in_default : goal.returns-in_default
returns-in_default g c =
    let fits-second : FitsSigned w64 c.args.second = search rules in
    let none = rw (to_z-of_z fits-second) at c.in_default.ensures in
    subst (λ v. is_open v c.args.second ≡ false) c.self.view_is (windows.none-opened _ (closing-by_is g.R.Rule.at (λ set. g.R.Rule.fires (g.C.CivilSeconds.has set) c.self.inside.clock.now) c.self.inside.closing c.self.invariant) c.args.second none c.args.second (omega (arith, ints)))

pub returns-then-has_closed : goal.returns-then-has_closed
returns-then-has_closed g c =
    let fits-second : FitsSigned w64 c.args.second = search rules in
    let fits-opened : FitsSigned w64 c.in-Some.opened = search rules in
    let last = rw (to_z-of_z fits-second) at c.in-Some.ensures in
    let closed = rw (to_z-of_z fits-second, to_z-of_z fits-opened) at c.has_closed.ensures in
    subst (λ v. is_open v c.args.second ≡ false) c.self.view_is (windows.last-closed _ (closing-by_is g.R.Rule.at (λ set. g.R.Rule.fires (g.C.CivilSeconds.has set) c.self.inside.clock.now) c.self.inside.closing c.self.invariant) c.args.second c.in-Some.opened last (sym closed ∙ c.if-has_closed.true))

pub returns : goal.returns
returns g c =
    let fits-second : FitsSigned w64 c.args.second = search rules in
    let fits-opened : FitsSigned w64 c.in-Some.opened = search rules in
    let fits-to : FitsSigned w64 c.args.to = search rules in
    let fits-end : FitsSigned w64 c.end.result = search rules in
    let last = rw (to_z-of_z fits-second) at c.in-Some.ensures in
    let ends = rw (to_z-of_z fits-second, to_z-of_z fits-opened, to_z-of_z fits-to) at c.end.ensures in
    rw (to_z-of_z fits-end) (
      ends.0,
      ends.1,
      subst (λ v. AllAre (is_open v) c.args.second c.end.result true) c.self.view_is
          (windows.open-until _ (closing-by_is g.R.Rule.at (λ set. g.R.Rule.fires (g.C.CivilSeconds.has set) c.self.inside.clock.now) c.self.inside.closing c.self.invariant) c.args.second c.in-Some.opened c.args.to c.end.result last ends),
    )
