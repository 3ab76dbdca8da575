use Rattle.std.proofs.Common.{◌≡◌, pos, ◌+ℤ◌, ◌*ℤ◌, to_z, of_z, arith, subst, sym}
use Rattle.std.specs.Int.{w128}
use Rattle.std.proofs.lemmas.Bool.{true≢false}
use Rattle.std.proofs.lemmas.Int.{ints}
use Rattle.jiff_core.specs.Timestamp.{IsTimestampNanos}
use Rattle.cron_answers.proofs.instant.later.Goals as goal

pub returns-in-Err : goal.returns-in-Err
returns-in-Err c = λ there.
    let same : to_z w128 (of_z w128 (to_z w128 (of_z w128 c.as_nanosecond.result) +ℤ to_z w128 (of_z w128 (to_z w128 (of_z w128 c.from.result) *ℤ pos 1_000_000_000))))
    ≡ c.args.instant.nanosecond +ℤ c.args.seconds *ℤ pos 1_000_000_000 =
    omega (arith, ints, c.as_nanosecond.ensures, c.from.ensures, c.args.instant.in_range, c.requires, c.ranges.seconds.sfits) in
    true≢false (sym (c.in-Err.ensures.succeeds.1 (subst IsTimestampNanos (sym same) there)))
