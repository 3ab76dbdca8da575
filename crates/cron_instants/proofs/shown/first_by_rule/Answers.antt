use Rattle.std.proofs.Common.{◌≡◌, ◌+ℤ◌, pos, Bool, true, Some, of_z, to_z, w64, refl, rules, arith}
use Rattle.std.specs.Bool.{IsTrue}
use Rattle.jiff.specs.Words.{plain_zone}
use Rattle.jiff_core.proofs.SignedLemmas.{signed_arith, signed_casts}
use Rattle.cron_instants.proofs.ShownLemmas.{best_beyond, best_on, if_some}
use Rattle.cron_instants.proofs.PeriodLemmas.{best_in, none_in, period_kept}
use Rattle.cron_instants.proofs.shown.first_by_rule.Goals as goal

is_true : (b : Bool) → b ≡ true → IsTrue b
is_true b h = search rules

pub returns-then-is_long : goal.returns-then-is_long
returns-then-is_long g c =
    let range = c.args.mark.bounded in
    let near = c.in_ok-keeping.keeping.kept.offset.in_range in
    let at : to_z w64 (of_z w64 (to_z w64 (of_z w64 c.args.mark.instant) +ℤ pos 1)) ≡ c.args.mark.instant +ℤ pos 1 = omega (arith, signed_casts, range) in
    let from : to_z w64 (of_z w64 (c.args.mark.instant +ℤ pos 1 +ℤ to_z w64 (of_z w64 c.from.result))) ≡ c.args.mark.instant +ℤ pos 1 +ℤ c.in_ok-keeping.keeping.kept.offset.seconds =
    omega (arith, signed_casts, range, near, c.from.ensures, c.seconds.ensures) in
    let keeps = rw at at c.in_ok-keeping.ensures.kept in
    let nearest = rw from at (rw at at c.nearest-next.ensures.nearest) in
    let long = rw at at (c.is_long.ensures (is_true c.is_long.result c.if-is_long.true)) in
    if_some
    (λ first best. best_beyond (g.S.CivilSeconds.has c.args.set.now) (plain_zone c.args.zone.now) c.args.mark.instant (c.args.mark.instant +ℤ pos 1) c.args.mark.second first refl c.requires
    (best (g.S.CivilSeconds.has c.args.set.now) (c.args.mark.instant +ℤ pos 1) c.in_ok-keeping.ensures.agree keeps long nearest))
    c.first_in_long.result c.first_in_long.ensures

pub returns-in-Some : goal.returns-in-Some
returns-in-Some g c =
    let range = c.args.mark.bounded in
    let near = c.in_ok-keeping.keeping.kept.offset.in_range in
    let at : to_z w64 (of_z w64 (to_z w64 (of_z w64 c.args.mark.instant) +ℤ pos 1)) ≡ c.args.mark.instant +ℤ pos 1 = omega (arith, signed_casts, range) in
    let from : to_z w64 (of_z w64 (c.args.mark.instant +ℤ pos 1 +ℤ to_z w64 (of_z w64 c.from.result))) ≡ c.args.mark.instant +ℤ pos 1 +ℤ c.in_ok-keeping.keeping.kept.offset.seconds =
    omega (arith, signed_casts, range, near, c.from.ensures, c.seconds.ensures) in
    let keeps = rw at at c.in_ok-keeping.ensures.kept in
    let nearest = rw from at (rw at at c.nearest-next.ensures.nearest) in
    best_beyond (g.S.CivilSeconds.has c.args.set.now) (plain_zone c.args.zone.now) c.args.mark.instant (c.args.mark.instant +ℤ pos 1) c.args.mark.second (Some c.in-Some.item) refl c.requires
    (best_in (g.S.CivilSeconds.has c.args.set.now) (plain_zone c.args.zone.now) (c.args.mark.instant +ℤ pos 1) c.in_ok-keeping.keeping.kept
    (period_kept (plain_zone c.args.zone.now) (c.args.mark.instant +ℤ pos 1) c.in_ok-keeping.keeping.kept c.in_ok-keeping.ensures.agree keeps)
    c.nearest-next.result nearest c.in-Some.item c.in-Some.ensures)

pub returns : goal.returns
returns g c =
    let range = c.args.mark.bounded in
    let near = c.in_ok-keeping.keeping.kept.offset.in_range in
    let at : to_z w64 (of_z w64 (to_z w64 (of_z w64 c.args.mark.instant) +ℤ pos 1)) ≡ c.args.mark.instant +ℤ pos 1 = omega (arith, signed_casts, range) in
    let from : to_z w64 (of_z w64 (c.args.mark.instant +ℤ pos 1 +ℤ to_z w64 (of_z w64 c.from.result))) ≡ c.args.mark.instant +ℤ pos 1 +ℤ c.in_ok-keeping.keeping.kept.offset.seconds =
    omega (arith, signed_casts, range, near, c.from.ensures, c.seconds.ensures) in
    let keeps = rw at at c.in_ok-keeping.ensures.kept in
    let nearest = rw from at (rw at at c.nearest-next.ensures.nearest) in
    let end : to_z w64 (of_z w64 c.from-end.result) ≡ pos c.in_ok-keeping.keeping.kept.end = omega (arith, signed_casts, c.from-end.ensures) in
    let later = keeps.later in
    let none = none_in (g.S.CivilSeconds.has c.args.set.now) (plain_zone c.args.zone.now) (c.args.mark.instant +ℤ pos 1) c.in_ok-keeping.keeping.kept
    (period_kept (plain_zone c.args.zone.now) (c.args.mark.instant +ℤ pos 1) c.in_ok-keeping.keeping.kept c.in_ok-keeping.ensures.agree keeps)
    c.nearest-next.result nearest c.in_default.ensures in
    if_some
    (λ first best. best_beyond (g.S.CivilSeconds.has c.args.set.now) (plain_zone c.args.zone.now) c.args.mark.instant (c.args.mark.instant +ℤ pos 1) c.args.mark.second first refl c.requires
    (best_on (g.S.CivilSeconds.has c.args.set.now) (plain_zone c.args.zone.now) (c.args.mark.instant +ℤ pos 1) (pos c.in_ok-keeping.keeping.kept.end) first (omega (arith, signed_arith, later)) none
    (rw end at best)))
    c.first_behind.result c.first_behind.ensures
