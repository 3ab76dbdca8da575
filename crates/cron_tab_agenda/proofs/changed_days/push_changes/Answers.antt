use Rattle.std.proofs.Common.{[], ◌∷◌, ◌++◌, ap, ◌∙◌, append_assoc, arith}
use Rattle.jiff.specs.Words.{plain_zone}
use Rattle.cron_tab_agenda.proofs.ChangeLemmas.{no-more, one-more}
use Rattle.cron_tab_agenda.proofs.changed_days.push_changes.Goals as goal

pub returns-in-Err-clause-appends : goal.returns-in-Err-clause-appends
returns-in-Err-clause-appends c =
    let was = c.loop-number.invariant in
    let next = c.in-Some.ensures in (
      was.0,
      c.in-Some.number,
      next.1,
      c.in-Err.ensures.same ∙ was.1,
      no-more c.args.schedules.now (plain_zone c.args.zone.now) c.args.first c.loop-number.at c.in-Some.number was.0 was.3 next.0 next.2,
    )

pub loop-number-preserved : goal.loop-number-preserved
loop-number-preserved c =
    let was = c.loop-number.invariant in
    let next = c.in-Some.ensures in (
      was.0 ++ c.in-Some.day ∷ [],
      c.in-Ok.ensures.pushed ∙ ap (λ l. l ++ c.in-Some.day ∷ []) was.1 ∙ append_assoc c.args.days.now.items was.0 (c.in-Some.day ∷ []),
      omega (arith, next.1),
      one-more c.args.schedules.now (plain_zone c.args.zone.now) c.args.first c.loop-number.at was.0 c.in-Some.number c.in-Some.day was.3 next.0 next.2 next.3,
    )
