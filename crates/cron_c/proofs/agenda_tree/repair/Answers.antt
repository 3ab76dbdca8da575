use Rattle.std.proofs.Common.{Some, arith, ◌∙◌, ◌-◌, ◌/◌}
use Rattle.cron_c.proofs.AgendaLemmas.{all-right, same-size, up-right}
use Rattle.cron_c.proofs.agenda_tree.repair.Goals as goal

pub returns-then-at-eq0 : goal.returns-then-at-eq0
returns-then-at-eq0 c = record {
  same = c.tell.ensures.same ∙ c.loop-at.invariant.1;
  tree = λ others.
      all-right c.loop-at.entries c.tell.new.entries c.loop-at.at (Some c.best_of-key.result) c.loop-at.invariant.0 c.tell.ensures.same
      c.tell.ensures.keys c.best_of-key.ensures c.if-at-eq0.true (c.loop-at.invariant.2 others);
}

pub loop-at-preserved : goal.loop-at-preserved
loop-at-preserved c = (
  omega (arith, c.loop-at.invariant.0, same-size c.loop-at.entries c.tell.new.entries c.tell.ensures.same),
  c.tell.ensures.same ∙ c.loop-at.invariant.1,
  λ others.
      up-right c.loop-at.entries c.tell.new.entries c.loop-at.at (Some c.best_of-key.result) c.loop-at.invariant.0 c.tell.ensures.same
      c.tell.ensures.keys c.best_of-key.ensures (c.loop-at.invariant.2 others) ((c.loop-at.at - 1) / 2)
      (λ i apart. (omega (arith, apart, c.if-at-eq0.false), omega (arith, apart, c.if-at-eq0.false))),
)
