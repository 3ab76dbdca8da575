use Rattle.std.proofs.Common.{rules, ◌≡◌, Bool, true, false, ℤ, ◌≤ℤ◌, ◌<ℤ◌, Some, None, FitsSigned, w64, to_z-of_z, sym, subst, ◌∙◌, arith}
use Rattle.std.specs.Prelude.{not}
use Rattle.std.proofs.lemmas.Int.{ints, clamps}
use Rattle.cron_windows.specs.Windows.{AllAre, LastsSince, LastsUntil, is_open}
use Rattle.cron_windows.proofs.ClosingLemmas.{closing-by_is}
use Rattle.cron_windows.proofs.WindowLemmas as windows
use Rattle.cron_windows.proofs.windows.Windows.is_open_at.Goals as goal

pub returns-in-Some : goal.returns-in-Some
returns-in-Some g c =
    let fits-second : FitsSigned w64 c.args.second = search rules in
    let fits-opened : FitsSigned w64 c.in-Some.opened = search rules in
    let last = rw (to_z-of_z fits-second) at c.in-Some.ensures in
    let closed = rw (to_z-of_z fits-second, to_z-of_z fits-opened) at c.has_closed.ensures in
    subst (λ v. not c.has_closed.result ≡ is_open v c.args.second) c.self.view_is (windows.opened-decides _ (closing-by_is g.R.Rule.at (λ set. g.R.Rule.fires (g.C.CivilSeconds.has set) c.self.inside.clock.now) c.self.inside.closing c.self.invariant) c.args.second c.in-Some.opened c.has_closed.result last closed)

pub returns-in-None : goal.returns-in-None
returns-in-None g c =
    let fits-second : FitsSigned w64 c.args.second = search rules in
    let none = rw (to_z-of_z fits-second) at c.in-None.ensures in
    subst (λ v. false ≡ is_open v c.args.second) c.self.view_is (sym (windows.none-opened _ (closing-by_is g.R.Rule.at (λ set. g.R.Rule.fires (g.C.CivilSeconds.has set) c.self.inside.clock.now) c.self.inside.closing c.self.invariant) c.args.second none c.args.second (omega (arith, ints))))
