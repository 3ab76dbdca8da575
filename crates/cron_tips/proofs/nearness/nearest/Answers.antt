use Rattle.std.proofs.Common.{◌≡◌, ◌≤◌, ◌∙◌, get_or, map, arith, sym}
use Rattle.cron_tips.specs.Nearest.{distances, reach}
use Rattle.cron_tips.proofs.NearLemmas.{edits_at, later, lowered, one_more}
use Rattle.cron_tips.proofs.nearness.nearest.Goals as goal
use Rattle.cron_tips.proofs.nearness.nearest.Goals.{then-edits-least, else-edits-least}

pub loop-at-preserved : goal.loop-at-preserved
loop-at-preserved c =
    let ns = distances c.args.word.now (map (λ n. n.now) c.args.names.now) in
    let here : get_or ns c.loop-at.at 0 ≡ c.in_ok-edits.edits =
    edits_at c.args.word.now c.args.names.now c.loop-at.at _ (omega (arith, c.loop-at-test.true)) ∙ sym c.in_ok-edits.ensures in
    elim c.if-edits-least.branch [
      | then-edits-least w ↦
          let under : c.in_ok-edits.edits ≤ c.loop-at.least = omega (arith, w.if-edits-least.true) in
          rw (w.least-is, w.found-is) (record {
            few = omega (arith, under, c.loop-at.invariant.few);
            least = one_more ns c.loop-at.at c.in_ok-edits.edits (lowered ns c.loop-at.at c.loop-at.least c.in_ok-edits.edits c.loop-at.invariant.least under) (omega (arith, here));
            found = (
              omega arith,
              here,
              omega (arith, w.if-edits-least.true, c.loop-at.invariant.few),
              λ k lt. let more = c.loop-at.invariant.least k lt in omega (arith, more, w.if-edits-least.true),
            );
          })
      | else-edits-least w ↦
          rw (w.least-is, w.found-is) (record {
            few = c.loop-at.invariant.few;
            least = one_more ns c.loop-at.at c.loop-at.least c.loop-at.invariant.least (omega (arith, here, w.if-edits-least.false));
            found = later ns c.loop-at.least (reach c.args.word.now) c.loop-at.found c.loop-at.at c.loop-at.invariant.found;
          })
    ]
