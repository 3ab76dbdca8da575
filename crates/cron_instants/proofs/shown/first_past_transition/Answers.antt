use Rattle.std.proofs.Common.{◌≡◌, ◌+ℤ◌, ◌≤ℤ◌, ◌-ℤ◌, of_z, to_z, pos, w64, arith, subst, sym}
use Rattle.jiff.specs.Words.{plain_zone}
use Rattle.jiff_core.proofs.SignedLemmas.{signed_casts}
use Rattle.cron_instants.specs.Inner.Periods.{IsPeriod, IsReadFrom}
use Rattle.cron_instants.proofs.PeriodLemmas.{best_in, best_in_order}
use Rattle.cron_instants.proofs.shown.first_past_transition.Goals as goal

pub returns-in-Some : goal.returns-in-Some
returns-in-Some g c =
    let kept = c.in_ok-kept.kept in
    let range = c.requires.at in
    let near = kept.offset.in_range in
    let from : to_z w64 (of_z w64 (to_z w64 (of_z w64 c.args.at) +ℤ to_z w64 (of_z w64 c.from.result))) ≡ c.args.at +ℤ kept.offset.seconds =
    omega (arith, signed_casts, range, near, c.from.ensures, c.seconds.ensures) in
    let last = c.requires.last.is in
    let period = subst (λ v. IsPeriod v c.args.at (pos kept.end) kept.offset) (sym c.requires.zone)
    (c.in_ok-kept.ensures.period c.args.at (λ some. omega (arith, signed_casts, last))) in
    best_in (g.S.CivilSeconds.has c.args.set.now) (plain_zone c.args.zone.now) c.args.at kept period c.match_from-next.result (rw from at c.match_from-next.ensures.nearest)
    c.in-Some.item c.in-Some.ensures

pub returns : goal.returns
returns g c =
    let kept = c.in_ok-kept.kept in
    let range = c.requires.at in
    let near = kept.offset.in_range in
    let from : to_z w64 (of_z w64 (to_z w64 (of_z w64 c.args.at) +ℤ to_z w64 (of_z w64 c.from.result))) ≡ c.args.at +ℤ kept.offset.seconds =
    omega (arith, signed_casts, range, near, c.from.ensures, c.seconds.ensures) in
    let reads = subst (λ v. IsReadFrom v c.args.at (c.args.at +ℤ kept.offset.seconds)) (sym c.requires.zone) (c.in_ok-kept.ensures.first c.args.at c.requires.last) in
    let there = c.in_ok-there.there in
    let close = there.offset.in_range in
    let later : c.args.at ≤ℤ (pos c.in_ok-second.second -ℤ there.offset.seconds) =
    omega (arith, signed_casts, range, close, c.in_ok-second.ensures.bound, c.from-2.ensures, c.from-3.ensures, c.seconds-2.ensures, c.if-from-at.false) in
    let order = c.in_ok-there.ensures in
    rw c.moment_numbered.ensures (best_in_order (g.S.CivilSeconds.has c.args.set.now) (plain_zone c.args.zone.now) c.args.at (c.args.at +ℤ kept.offset.seconds) c.in_ok-second.second
    there.offset reads (rw from at c.in_ok-second.ensures.nearest) (order.0.on c.in_ok-second.second (omega arith) order.1) later)
