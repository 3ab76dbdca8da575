use Rattle.std.proofs.Common.{Some, arith, ◌∙◌, ◌-◌}
use Rattle.cron_c.proofs.AgendaLemmas.{place-right, same-size}
use Rattle.cron_c.proofs.agenda_tree.rebuild.Goals as goal

pub loop-at-preserved : goal.loop-at-preserved
loop-at-preserved c = (
  c.tell.ensures.same ∙ c.loop-at.invariant.0,
  λ i low high.
      place-right c.loop-at.entries c.tell.new.entries (c.loop-at.at - 1) (Some c.best_of-key.result) (omega arith) c.tell.ensures.same
      c.tell.ensures.keys c.best_of-key.ensures i (omega arith) (omega arith)
      (λ apart.
      c.loop-at.invariant.1 i (omega (arith, apart))
      (omega (arith, high, same-size c.loop-at.entries c.tell.new.entries c.tell.ensures.same))),
)
