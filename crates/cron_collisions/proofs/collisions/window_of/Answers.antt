use Rattle.std.proofs.Common.{◌≡◌, ◌≤◌, ◌+ℤ◌, ◌-ℤ◌, pos, ℤ, ap, subst, ◌∙◌, arith, to_z, of_z}
use Rattle.std.specs.Int.{w128}
use Rattle.std.proofs.lemmas.Int.{ints}
use Rattle.cron_collisions.specs.Inner.Below.{before, below}
use Rattle.cron_collisions.proofs.collisions.window_of.Goals as goal

pub count_below-requires-clause-known : goal.count_below-requires-clause-known
count_below-requires-clause-known c =
    let start = c.ranges.start in
    let length = c.ranges.length in
    let is : before c.args.length c.args.start ≡ to_z w128 (of_z w128 (to_z w128 (of_z w128 (to_z w128 (of_z w128 c.from-start.result) -ℤ to_z w128 (of_z w128 c.from-length.result))) +ℤ pos 1)) =
    omega (arith, ints, c.from-start.ensures, c.from-length.ensures) in
    subst (λ (b : ℤ). c.args.earlier.ended ≤ below b c.args.fires.now) is c.requires.ended

pub count_below-requires-2-clause-known : goal.count_below-requires-2-clause-known
count_below-requires-2-clause-known c =
    let start = c.ranges.start in
    let length = c.ranges.length in
    let is : c.args.start +ℤ pos c.args.length ≡ to_z w128 (of_z w128 (to_z w128 (of_z w128 c.from-start.result) +ℤ to_z w128 (of_z w128 c.from-length.result))) =
    omega (arith, ints, c.from-start.ensures, c.from-length.ensures) in
    subst (λ (b : ℤ). c.args.earlier.begun ≤ below b c.args.fires.now) is c.requires.begun

pub returns-clause-ended : goal.returns-clause-ended
returns-clause-ended c =
    let start = c.ranges.start in
    let length = c.ranges.length in
    c.count_below.ensures ∙ ap (λ (b : ℤ). below b c.args.fires.now) (omega (arith, ints, c.from-start.ensures, c.from-length.ensures))

pub returns-clause-begun : goal.returns-clause-begun
returns-clause-begun c =
    let start = c.ranges.start in
    let length = c.ranges.length in
    c.count_below-2.ensures ∙ ap (λ (b : ℤ). below b c.args.fires.now) (omega (arith, ints, c.from-start.ensures, c.from-length.ensures))
