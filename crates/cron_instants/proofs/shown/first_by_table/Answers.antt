use Rattle.std.proofs.Common.{◌≡◌, ◌∙◌, ◌+ℤ◌, Some, of_z, to_z, pos, w64, refl, arith, ap, subst, sym}
use Rattle.jiff.specs.Words.{plain_zone}
use Rattle.jiff_core.proofs.SignedLemmas.{signed_arith, signed_casts}
use Rattle.jiff_tz.specs.Tzif.{count_at}
use Rattle.cron_instants.specs.Inner.Periods.{IsPeriod}
use Rattle.cron_instants.proofs.PeriodLemmas.{best_in, none_in}
use Rattle.cron_instants.proofs.ShownLemmas.{best_beyond, best_on, if_some}
use Rattle.cron_instants.proofs.TablePeriods.{are_passed, is_ahead}
use Rattle.cron_instants.proofs.shown.first_by_table.Goals as goal

pub returns-in-Some : goal.returns-in-Some
returns-in-Some g c =
    let kept = c.in_ok-kept.kept in
    let range = c.args.mark.bounded in
    let near = kept.offset.in_range in
    let at : to_z w64 (of_z w64 (to_z w64 (of_z w64 c.args.mark.instant) +ℤ pos 1)) ≡ c.args.mark.instant +ℤ pos 1 = omega (arith, signed_casts, range) in
    let from : to_z w64 (of_z w64 (c.args.mark.instant +ℤ pos 1 +ℤ to_z w64 (of_z w64 c.from.result))) ≡ c.args.mark.instant +ℤ pos 1 +ℤ kept.offset.seconds =
    omega (arith, signed_casts, range, near, c.from.ensures, c.seconds.ensures) in
    let count = c.transitions_by-count.ensures.value ∙ ap (count_at c.args.table.now) at in
    let period = subst (λ v. IsPeriod v (c.args.mark.instant +ℤ pos 1) (pos kept.end) kept.offset) (sym c.requires.zone)
    (c.in_ok-kept.ensures.period (c.args.mark.instant +ℤ pos 1) (are_passed c.args.table.now c.transitions_by-count.result (c.args.mark.instant +ℤ pos 1) count)) in
    let nearest = rw from at (rw at at c.nearest-next.ensures.nearest) in
    best_beyond (g.S.CivilSeconds.has c.args.set.now) (plain_zone c.args.zone.now) c.args.mark.instant (c.args.mark.instant +ℤ pos 1) c.args.mark.second (Some c.in-Some.item) refl c.requires.behind
    (best_in (g.S.CivilSeconds.has c.args.set.now) (plain_zone c.args.zone.now) (c.args.mark.instant +ℤ pos 1) kept period c.nearest-next.result nearest c.in-Some.item c.in-Some.ensures)

pub returns : goal.returns
returns g c =
    let kept = c.in_ok-kept.kept in
    let range = c.args.mark.bounded in
    let near = kept.offset.in_range in
    let at : to_z w64 (of_z w64 (to_z w64 (of_z w64 c.args.mark.instant) +ℤ pos 1)) ≡ c.args.mark.instant +ℤ pos 1 = omega (arith, signed_casts, range) in
    let from : to_z w64 (of_z w64 (c.args.mark.instant +ℤ pos 1 +ℤ to_z w64 (of_z w64 c.from.result))) ≡ c.args.mark.instant +ℤ pos 1 +ℤ kept.offset.seconds =
    omega (arith, signed_casts, range, near, c.from.ensures, c.seconds.ensures) in
    let count = c.transitions_by-count.ensures.value ∙ ap (count_at c.args.table.now) at in
    let period = subst (λ v. IsPeriod v (c.args.mark.instant +ℤ pos 1) (pos kept.end) kept.offset) (sym c.requires.zone)
    (c.in_ok-kept.ensures.period (c.args.mark.instant +ℤ pos 1) (are_passed c.args.table.now c.transitions_by-count.result (c.args.mark.instant +ℤ pos 1) count)) in
    let nearest = rw from at (rw at at c.nearest-next.ensures.nearest) in
    let end : to_z w64 (of_z w64 c.from-2.result) ≡ pos kept.end = omega (arith, signed_casts, c.from-2.ensures) in
    let ahead = is_ahead c.args.table.now c.transitions_by-count.result (c.args.mark.instant +ℤ pos 1) count (omega (arith, c.in_ok-kept.ensures.more)) in
    let last = c.in_ok-kept.ensures.end in
    let none = none_in (g.S.CivilSeconds.has c.args.set.now) (plain_zone c.args.zone.now) (c.args.mark.instant +ℤ pos 1) kept period c.nearest-next.result nearest c.in_default.ensures in
    if_some
    (λ item best. best_beyond (g.S.CivilSeconds.has c.args.set.now) (plain_zone c.args.zone.now) c.args.mark.instant (c.args.mark.instant +ℤ pos 1) c.args.mark.second (Some item) refl c.requires.behind
    (best_on (g.S.CivilSeconds.has c.args.set.now) (plain_zone c.args.zone.now) (c.args.mark.instant +ℤ pos 1) (pos kept.end) (Some item) (omega (arith, signed_arith, ahead, last)) none
    (rw end at best)))
    c.first_past_transition.result c.first_past_transition.ensures
