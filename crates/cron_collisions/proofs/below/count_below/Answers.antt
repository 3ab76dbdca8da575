use Rattle.std.proofs.Common.{◌≡◌, ◌≤◌, get_or, pos, rules, true, false, sym, ◌∙◌, arith, SFits, w64}
use Rattle.std.specs.Int.{w128}
use Rattle.std.specs.Prelude.{int_lt}
use Rattle.std.proofs.lemmas.Int.{to_z-of_z}
use Rattle.cron_collisions.specs.Inner.Below.{below}
use Rattle.cron_collisions.proofs.BelowLemmas.{below-past, below-up_to}
use Rattle.cron_collisions.proofs.below.count_below.Goals as goal

pub loop-count-preserved : goal.loop-count-preserved
loop-count-preserved c =
    let fits : SFits w128 c.args.bound = c.ranges.bound in
    let number : SFits w64 (get_or c.args.numbers.now c.loop-count.count (pos 0)) = search rules in
    let less : int_lt (get_or c.args.numbers.now c.loop-count.count (pos 0)) c.args.bound ≡ true = simp (to_z-of_z) at (sym c.lies_below.ensures ∙ c.if-lies_below.true) in
    simp to_z-of_z (omega (arith, below-past c.args.bound c.args.numbers.now c.loop-count.count (pos 0) c.requires.ascends c.loop-count-test.true less))

pub returns-else-lies_below : goal.returns-else-lies_below
returns-else-lies_below c =
    let fits : SFits w128 c.args.bound = c.ranges.bound in
    let number : SFits w64 (get_or c.args.numbers.now c.loop-count.count (pos 0)) = search rules in
    let more : int_lt (get_or c.args.numbers.now c.loop-count.count (pos 0)) c.args.bound ≡ false = simp (to_z-of_z) at (sym c.lies_below.ensures ∙ c.if-lies_below.false) in
    let so_far : c.loop-count.count ≤ below c.args.bound c.args.numbers.now = simp to_z-of_z at c.loop-count.invariant in
    omega (arith, below-up_to c.args.bound c.args.numbers.now c.loop-count.count (pos 0) c.requires.ascends c.loop-count-test.true more)
