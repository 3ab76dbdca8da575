use Rattle.std.proofs.Common.{◌-◌, pos, ◌≤ℤ◌, get_or, arith, rules, SFits, w64}
use Rattle.std.proofs.lemmas.Int.{ints}
use Rattle.cron_collisions.proofs.OrderLemmas.{ascend-each}
use Rattle.cron_collisions.proofs.order.ascends.Goals as goal

pub returns-then-seconds-place : goal.returns-then-seconds-place
returns-then-seconds-place c =
    let ss = c.args.seconds.now in
    let here : SFits w64 (get_or ss c.loop-place.place (pos 0)) = search rules in
    let before : SFits w64 (get_or ss (c.loop-place.place - 1) (pos 0)) = search rules in
    (λ h. absurd (grind arith), λ up. let in_order : get_or ss (c.loop-place.place - 1) (pos 0) ≤ℤ get_or ss c.loop-place.place (pos 0) = up (c.loop-place.place - 1) c.loop-place.place (pos 0) (omega arith) c.loop-place-test.true in absurd (grind (arith, ints, c.if-seconds-place.true)))

pub returns : goal.returns
returns c = (λ h. ascend-each c.args.seconds.now (λ k short. c.loop-place.invariant k (omega arith)), λ up. search rules)
