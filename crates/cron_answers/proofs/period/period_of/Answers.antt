use Rattle.std.proofs.Common.{◌≡◌, inl, inr, length, ap, arith}
use Rattle.cron_answers.proofs.period.period_of.Goals as goal

-- a text of seven bytes is that of no year
pub returns-in-7-clause-only : goal.returns-in-7-clause-only
returns-in-7-clause-only c p (inl y) =
    let four : length c.args.text.now ≡ 4 = ap length y.spelled in
    let seven : length c.as_bytes-text.result.now ≡ 7 = c.in-7.is in
    let same : length c.as_bytes-text.result.now ≡ length c.args.text.now = ap length c.as_bytes-text.ensures.value in
    absurd (omega (arith, four, seven, same))
returns-in-7-clause-only c p (inr m) = c.month_of.ensures.only p (rw c.as_bytes-text.ensures.value m)
