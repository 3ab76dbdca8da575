use Rattle.std.proofs.Common.{◌≤◌, arith}
use Rattle.cron_comparing.proofs.LengthLemmas.{months_31, months_30, months_february}
use Rattle.cron_comparing.proofs.lengths.months_of.Goals as goal

pub returns-in-31 : goal.returns-in-31
returns-in-31 c = λ m l g. rw c.in-31.is (months_31 _ c.from_bits.ensures m l g)

pub returns-in-30 : goal.returns-in-30
returns-in-30 c = λ m l g. rw c.in-30.is (months_30 _ c.from_bits-in-30.ensures m l g)

pub returns-in_default : goal.returns-in_default
returns-in_default c = λ m l g.
    let high : c.args.length ≤ 29 = omega (arith, c.in_default, c.requires) in
    months_february _ c.args.length c.requires.0 high c.from_bits-in_default.ensures m l g
