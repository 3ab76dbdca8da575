use Rattle.std.proofs.Common.{rules, ◌≡◌, pos, ◌*ℤ◌, FitsSigned, w64, to_z-of_z}
use Rattle.jiff.specs.Words.{plain_zone}
use Rattle.cron_dues.proofs.KeptLemmas.{kept}
use Rattle.cron_dues.proofs.steady.steady_up_to_transition.Goals as goal

pub returns-clause-kept : goal.returns-clause-kept
returns-clause-kept c =
    let fits : FitsSigned w64 c.args.second = search rules in
    let fits-end : FitsSigned w64 c.lesser.result = search rules in
    let fits-one : FitsSigned w64 c.transition_end-untouched.result = search rules in
    let fits-other : FitsSigned w64 c.year_end.result = search rules in
    let at : c.unwrap-at.result.nanosecond ≡ c.args.second *ℤ pos 1_000_000_000 = rw (c.unwrap-at.ensures, to_z-of_z fits) at c.from_second.ensures.value in
    let untouched = rw (to_z-of_z fits, c.to_plain.ensures) at c.transition_end-untouched.ensures.untouched in
    let year = rw (to_z-of_z fits) at c.year_end.ensures.year in
    rw (to_z-of_z fits-end) (kept (plain_zone c.args.zone.now) c.args.second c.transition_end-untouched.result c.year_end.result c.lesser.result
    c.to_offset-offset.result.seconds c.requires (rw at at c.to_offset-offset.ensures) untouched year c.transition_end-untouched.ensures.bound
    (rw (to_z-of_z fits-one) at c.lesser.ensures.one) (rw (to_z-of_z fits-other) at c.lesser.ensures.other))
