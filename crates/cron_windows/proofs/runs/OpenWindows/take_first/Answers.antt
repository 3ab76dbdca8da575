use Rattle.std.proofs.Common.{rules, ◌≡◌, [], FitsSigned, w64, to_z, of_z, to_z-of_z, sym, ◌∙◌, arith}
use Rattle.std.proofs.lemmas.Int.{ints}
use Rattle.cron_windows.specs.Windows.{is_open}
use Rattle.cron_windows.proofs.RunLemmas.{no_windows}
use Rattle.cron_windows.proofs.runs.OpenWindows.take_first.Goals as goal

pub returns-in-None : goal.returns-in-None
returns-in-None g c =
    let fits-place : FitsSigned w64 c.self.inside.place = search rules in
    let fits-to : FitsSigned w64 c.self.inside.to = search rules in
    let none = rw (to_z-of_z fits-place, to_z-of_z fits-to) at c.in-None.ensures in (
      sym c.self.view_is ∙ none,
      no_windows (is_open c.self.inside.windows.now) (to_z w64 (of_z w64 c.self.inside.to)) c.self.inside.to (omega (arith, ints)),
    )
