use Rattle.std.proofs.Common.{◌≡◌, ◌+ℤ◌, pos, of_z, to_z, w64, arith}
use Rattle.jiff_core.proofs.SignedLemmas.{signed_casts}
use Rattle.jiff.specs.Words.{plain_zone}
use Rattle.cron_instants.proofs.MonotoneLemmas.{first_apart, first_monotone}
use Rattle.cron_instants.proofs.first.item_past.Goals as goal

pub returns-then-next-monotone : goal.returns-then-next-monotone
returns-then-next-monotone g c =
    let from : to_z w64 (of_z w64 (to_z w64 (of_z w64 c.from.result) +ℤ pos 1)) ≡ pos c.args.second +ℤ pos 1 =
    omega (arith, signed_casts, c.from.ensures, c.requires.range) in
    rw c.moment_numbered.ensures (first_monotone (g.S.CivilSeconds.has c.args.set.now) (plain_zone c.args.zone.now) c.args.mark.instant c.args.second c.args.mark.second
    c.in_ok-next.next c.args.monotone c.requires.monotone c.requires.instant c.requires.upto c.requires.range
    (rw from at c.in_ok-next.ensures.nearest) c.if-next-monotone.true)

pub returns-in-Some : goal.returns-in-Some
returns-in-Some g c =
    let from : to_z w64 (of_z w64 (to_z w64 (of_z w64 c.from.result) +ℤ pos 1)) ≡ pos c.args.second +ℤ pos 1 =
    omega (arith, signed_casts, c.from.ensures, c.requires.range) in
    rw c.moment_numbered-in-Some.ensures (first_apart (g.S.CivilSeconds.has c.args.set.now) (plain_zone c.args.zone.now) c.args.mark.instant c.args.second c.args.mark.second
    c.in_ok-next.next c.args.monotone c.in-Some.there c.requires.monotone c.requires.instant c.requires.upto c.requires.range
    (rw from at c.in_ok-next.ensures.nearest)
    c.in-Some.ensures.0 c.in-Some.ensures.1)
