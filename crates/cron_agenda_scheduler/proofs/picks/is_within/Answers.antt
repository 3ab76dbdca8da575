use Rattle.std.proofs.Common.{◌≡◌, ap, ◌∙◌, arith, to_z, of_z}
use Rattle.std.specs.Prelude.{int_le, pos, ◌-ℤ◌, ◌*ℤ◌}
use Rattle.std.specs.Int.{w128}
use Rattle.std.proofs.lemmas.Int.{ints}
use Rattle.cron_agenda.specs.Fires.{instant}
use Rattle.cron_agenda_scheduler.proofs.LateLemmas.{age_is}
use Rattle.cron_agenda_scheduler.proofs.picks.is_within.Goals as goal

pub returns : goal.returns
returns c =
    let age : to_z w128 (of_z w128 (to_z w128 (of_z w128 c.as_nanosecond.result) -ℤ to_z w128 (of_z w128 c.as_nanosecond-2.result)))
    ≡ (c.args.now.nanosecond -ℤ c.timestamp.result.nanosecond) =
    omega (arith, ints, c.as_nanosecond.ensures, c.as_nanosecond-2.ensures, c.args.now.in_range, c.timestamp.result.in_range) in
    let limit : to_z w128 (of_z w128 (to_z w128 (of_z w128 c.from.result) *ℤ pos 1_000_000_000)) ≡ pos c.args.seconds *ℤ pos 1_000_000_000 =
    omega (arith, ints, c.from.ensures, c.ranges.seconds.fits) in
    ap (λ x. int_le x (to_z w128 (of_z w128 (to_z w128 (of_z w128 c.from.result) *ℤ pos 1_000_000_000)))) age
    ∙ ap (int_le (c.args.now.nanosecond -ℤ c.timestamp.result.nanosecond)) limit
    ∙ age_is c.args.now.nanosecond c.timestamp.result.nanosecond (instant c.args.fire.now) c.args.seconds c.timestamp.ensures
