use Rattle.std.proofs.Common.{◌+◌, ◌*◌}
use Rattle.cron_counting.specs.Inner.Times.{fits_in}
use Rattle.cron_counting.proofs.HourLemmas.{cut-second, whole-second}
use Rattle.cron_counting.proofs.TotalLemmas.{few-of}
use Rattle.cron_counting.proofs.hour.count_second.Goals as goal

pub returns-then-covers_hour-clause-value : goal.returns-then-covers_hour-clause-value
returns-then-covers_hour-clause-value c =
    let covered = c.covers_hour.ensures c.if-covers_hour.true in
    whole-second c.args.times.now c.args.span c.args.hour c.args.second c.requires.second _ _ _ covered.0 covered.1 c.minutes_at-minutes.ensures
    c.below.ensures.bits c.count.ensures.value

pub returns-then-covers_hour-clause-few : goal.returns-then-covers_hour-clause-few
returns-then-covers_hour-clause-few c =
    let covered = c.covers_hour.ensures c.if-covers_hour.true in
    few-of (λ m. fits_in c.args.times.now c.args.span (c.args.hour * 3600 + (m * 60 + c.args.second))) 60 c.count.result
    (whole-second c.args.times.now c.args.span c.args.hour c.args.second c.requires.second _ _ _ covered.0 covered.1 c.minutes_at-minutes.ensures
    c.below.ensures.bits c.count.ensures.value)

pub returns-else-covers_hour-clause-value : goal.returns-else-covers_hour-clause-value
returns-else-covers_hour-clause-value c =
    cut-second c.args.times.now c.args.span c.args.hour c.args.second c.requires.second _ _ c.minutes_at-minutes.ensures c.count_cut.ensures.value
