use Rattle.std.proofs.Common.{rules, ◌≡◌, [], ◌∷◌, FitsSigned, w64, to_z-of_z, sym, ap, ◌∙◌, arith}
use Rattle.std.proofs.lemmas.Int.{ints}
use Rattle.cron_windows.specs.Windows.{is_open}
use Rattle.cron_windows.proofs.RunLemmas.{no_stretches, stretch-of}
use Rattle.cron_windows.proofs.runs.States.take_first.Goals as goal

pub returns-then-self : goal.returns-then-self
returns-then-self g c =
    let none = sym c.self.view_is ∙ no_stretches (is_open c.self.inside.windows.now) c.self.inside.place c.self.inside.to (omega (arith, ints, c.if-self.true)) in
    (none, none)

pub returns : goal.returns
returns g c =
    let fits-place : FitsSigned w64 c.self.inside.place = search rules in
    let fits-to : FitsSigned w64 c.self.inside.to = search rules in
    let fits-end : FitsSigned w64 c.stretch_from-stretch.result.end = search rules in
    let first = rw (to_z-of_z fits-place) at c.stretch_from-stretch.ensures.first in
    let lasts = rw (to_z-of_z fits-place, to_z-of_z fits-to) at c.stretch_from-stretch.ensures.lasts in
    rw (to_z-of_z fits-end)
    (sym c.self.view_is ∙ stretch-of (is_open c.self.inside.windows.now) c.stretch_from-stretch.result c.self.inside.place c.self.inside.to first lasts)
