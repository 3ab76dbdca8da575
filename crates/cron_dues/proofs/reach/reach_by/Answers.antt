use Rattle.std.proofs.Common.{rules, FitsSigned, w64, to_z-of_z, pos, ◌≡◌, arith}
use Rattle.std.specs.Int.{int_div_euclid}
use Rattle.jiff_core.proofs.SignedLemmas.{signed_casts}
use Rattle.cron_dues.proofs.DueLemmas.{all_reached, none_reached, reached_of}
use Rattle.cron_dues.proofs.reach.reach_by.Goals as goal

pub returns-then-second-ltminus100000-clause-reached : goal.returns-then-second-ltminus100000-clause-reached
returns-then-second-ltminus100000-clause-reached g c =
    let second : c.floor_second-second.result ≡ int_div_euclid c.args.now.nanosecond (pos 1_000_000_000) =
    rw c.to_plain.ensures at c.floor_second-second.ensures in
    rw (← second) (none_reached (g.C.Clock.offsets c.args.clock.now) c.floor_second-second.result (omega (arith, signed_casts, c.if-second-ltminus100000.true)))

pub returns-then-second-clause-reached : goal.returns-then-second-clause-reached
returns-then-second-clause-reached g c =
    let second : c.floor_second-second.result ≡ int_div_euclid c.args.now.nanosecond (pos 1_000_000_000) =
    rw c.to_plain.ensures at c.floor_second-second.ensures in
    rw (← second) (all_reached (g.C.Clock.offsets c.args.clock.now) c.floor_second-second.result (omega (arith, signed_casts, c.if-second.true)))

pub returns-clause-reached : goal.returns-clause-reached
returns-clause-reached g c =
    let second : c.floor_second-second.result ≡ int_div_euclid c.args.now.nanosecond (pos 1_000_000_000) =
    rw c.to_plain.ensures at c.floor_second-second.ensures in
    let fits : FitsSigned w64 c.floor_second-second.result = search rules in
    let greatest = rw (to_z-of_z fits) at c.greatest_by.ensures.greatest in
    rw (← second) (reached_of (g.C.Clock.offsets c.args.clock.now) c.floor_second-second.result c.greatest_by.result.second greatest)
