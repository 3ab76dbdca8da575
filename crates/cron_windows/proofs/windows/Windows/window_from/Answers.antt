use Rattle.std.proofs.Common.{rules, ◌≡◌, [], ◌∷◌, FitsSigned, w64, to_z-of_z, sym, ap, ◌∙◌, arith}
use Rattle.std.proofs.lemmas.Int.{ints}
use Rattle.cron_windows.specs.Windows.{is_open}
use Rattle.cron_windows.proofs.RunLemmas.{all_closed, no_windows, window-first}
use Rattle.cron_windows.proofs.windows.Windows.window_from.Goals as goal

pub returns-then-second-to : goal.returns-then-second-to
returns-then-second-to g c = no_windows (is_open c.args.self.now) c.args.second c.args.to (omega (arith, ints, c.if-second-to.true))

pub returns-in-None : goal.returns-in-None
returns-in-None g c =
    let fits-second : FitsSigned w64 c.args.second = search rules in
    let fits-to : FitsSigned w64 c.args.to = search rules in
    all_closed (is_open c.args.self.now) c.args.second c.args.to (omega (arith, ints, c.if-second-to.false)) (rw (to_z-of_z fits-second, to_z-of_z fits-to) at c.in-None.ensures)

pub returns-in-Some : goal.returns-in-Some
returns-in-Some g c =
    let fits-second : FitsSigned w64 c.args.second = search rules in
    let fits-to : FitsSigned w64 c.args.to = search rules in
    let fits-first : FitsSigned w64 c.in-Some.first = search rules in
    let fits-end : FitsSigned w64 c.open_end.result = search rules in
    let found = rw (to_z-of_z fits-second, to_z-of_z fits-to) at c.in-Some.ensures in
    let lasts = rw (to_z-of_z fits-first, to_z-of_z fits-to) at c.open_end.ensures in
    rw (to_z-of_z fits-end, to_z-of_z fits-first) (
      omega (arith, ints, found.0, lasts.later),
      lasts.within,
      window-first (is_open c.args.self.now) c.args.second c.in-Some.first c.args.to c.open_end.result found.0 found.1 found.2 found.3 lasts,
    )
