use Rattle.std.proofs.Common.{◌≤◌, arith}
use Rattle.cron_comparing.proofs.LengthLemmas.{years_28, years_29, years_all}
use Rattle.cron_comparing.proofs.lengths.years_of.Goals as goal

pub returns-in-28 : goal.returns-in-28
returns-in-28 c = λ y l g. rw c.in-28.is (years_28 _ c.from_three.ensures y l g)

pub returns-in-29 : goal.returns-in-29
returns-in-29 c = λ y l g. rw c.in-29.is (years_29 _ c.from_three-in-29.ensures y l g)

pub returns-in_default : goal.returns-in_default
returns-in_default c = λ y l g.
    let low : 30 ≤ c.args.length = omega (arith, c.in_default, c.requires) in
    years_all _ c.args.length low c.from_three-in_default.ensures y l g
