use Rattle.std.proofs.Common.{◌≡◌, ◌+ℤ◌, Bool, true, of_z, to_z, w64, rules, arith}
use Rattle.std.specs.Bool.{IsTrue}
use Rattle.jiff_core.proofs.SignedLemmas.{signed_casts}
use Rattle.cron_instants.proofs.ShownLemmas.{if_some}
use Rattle.cron_instants.proofs.shown.first_behind.Goals as goal

is_true : (b : Bool) → b ≡ true → IsTrue b
is_true b h = search rules

pub returns : goal.returns
returns g c =
    let range = c.requires.at in
    let near = c.args.kept.now.offset.in_range in
    let at : to_z w64 (of_z w64 c.args.at) ≡ c.args.at = omega (arith, signed_casts, range) in
    let from : to_z w64 (of_z w64 (to_z w64 (of_z w64 c.args.at) +ℤ to_z w64 (of_z w64 c.from.result))) ≡ c.args.at +ℤ c.args.kept.now.offset.seconds =
    omega (arith, signed_casts, range, near, c.from.ensures, c.seconds.ensures) in
    let long = rw at at (c.is_long.ensures (is_true c.is_long.result c.if-not-is_long.false)) in
    if_some
    (λ first best. best (g.S.CivilSeconds.has c.args.set.now) c.args.at c.requires.agree c.requires.kept long (rw from at c.match_from.ensures.nearest))
    c.first_in_long.result c.first_in_long.ensures
