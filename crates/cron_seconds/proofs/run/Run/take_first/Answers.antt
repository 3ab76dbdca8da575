use Rattle.std.proofs.Common.{rules, ◌≡◌, false, ◌∷◌, ◌∙◌, sym, ap, subst, FitsSigned, w64, to_z-of_z}
use Rattle.cron_seconds.specs.Rules.{AreInOrder}
use Rattle.cron_seconds.specs.Runs.{is_within, up_to}
use Rattle.cron_seconds.proofs.RunLemmas.{up_to-late, up_to-nothing}
use Rattle.cron_seconds.proofs.run.Run.take_first.Goals as goal

pub returns-then-not-is_within : goal.returns-then-not-is_within
returns-then-not-is_within g c =
    let fits : FitsSigned w64 c.instant_of.result = search rules in
    let set = g.S.CivilSeconds.has c.self.inside.set in
    let until = c.self.inside.until in
    let asked = rw (to_z-of_z fits, c.instant_of.ensures) at c.is_within.ensures in
    let late : is_within until (g.R.Rule.at c.in-Some.fire) ≡ false = sym asked ∙ c.if-not-is_within.true in
    let first = c.in-Some.ensures.first in
    let are = c.in_order.ensures.left set c.self.inside.clock.now c.self.inside.stand in (
      sym c.self.view_is
          ∙ ap (up_to g.R.Rule.at until) first
          ∙ up_to-late g.R.Rule.at g.R.Rule.is_past until c.in-Some.fire _ (subst (AreInOrder g.R.Rule.at g.R.Rule.is_past) first are) late,
      ap (up_to g.R.Rule.at until) (c.stand_at_the_end.ensures.left set) ∙ up_to-nothing g.R.Rule.at until,
    )
