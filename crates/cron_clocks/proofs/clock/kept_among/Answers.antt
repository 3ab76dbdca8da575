use Rattle.std.proofs.Common.{◌≡◌, ◌∙◌, ◌≤ℤ◌, ◌<ℤ◌, pos, FitsSigned, w64, to_z, of_z, to_z-of_z, unsigned_abs, rules, sym, arith}
use Rattle.jiff_core.proofs.SignedLemmas.{signed_arith, signed_casts}
use Rattle.cron_clocks.proofs.ClockLemmas.{begins_past, ends_short, fits_utc, in_utc, kept_among}
use Rattle.cron_clocks.proofs.SpanLemmas.{as_number}
use Rattle.cron_clocks.proofs.clock.kept_among.Goals as goal

pub overflow_sub-start : goal.overflow_sub-start
overflow_sub-start c = fits_utc _ _ _ c.args.transitions.start_near c.args.rule.std_offset.in_range c.from.ensures

pub overflow_sub-end : goal.overflow_sub-end
overflow_sub-end c = fits_utc _ _ _ c.args.transitions.end_near c.args.dst.offset.in_range c.from-2.ensures

pub returns : goal.returns
returns c =
    let in_year = c.part_twice-in_year.ensures in
    let here = c.part_twice.ensures in
    let whole = in_year.narrowed in
    let then = here.narrowed in
    let fits-first : FitsSigned w64 c.args.transitions.year.first = search rules in
    let fits-last : FitsSigned w64 c.args.transitions.year.end = search rules in
    let year_low = rw (to_z-of_z fits-first) at in_year.one in
    let year_high = rw (to_z-of_z fits-last) at in_year.other in
    let one = rw (in_utc c.args.transitions.start c.args.rule.std_offset.seconds c.from.result c.args.transitions.start_near c.args.rule.std_offset.in_range c.from.ensures)
    at here.one in
    let other = rw (in_utc c.args.transitions.end c.args.dst.offset.seconds c.from-2.result c.args.transitions.end_near c.args.dst.offset.in_range c.from-2.ensures)
    at here.other in
    let fits-at : FitsSigned w64 c.from-at.result = search rules in
    let at : to_z w64 (of_z w64 c.from-at.result) ≡ pos c.args.second = to_z-of_z fits-at ∙ c.from-at.ensures in
    let low : c.part_twice-in_year.result.first ≤ℤ pos c.args.second = rw at at in_year.low in
    let high : pos c.args.second <ℤ c.part_twice-in_year.result.end = rw at at in_year.high in
    let from : c.part_twice.result.first ≤ℤ pos c.args.second = rw at at here.low in
    let to : pos c.args.second <ℤ c.part_twice.result.end = rw at at here.high in
    let first : c.args.transitions.year.first ≤ℤ c.part_twice-in_year.result.first = begins_past _ _ _ (pos c.args.second) year_low c.requires.low high in
    let last : c.part_twice-in_year.result.end ≤ℤ c.args.transitions.year.end = ends_short _ _ _ (pos c.args.second) year_high low c.requires.high in
    let fits-end : FitsSigned w64 c.part_twice.result.end = search rules in
    let is_end : pos (unsigned_abs (to_z w64 (of_z w64 c.part_twice.result.end))) ≡ c.part_twice.result.end =
    rw (to_z-of_z fits-end) (sym (as_number c.part_twice.result.end (omega (arith, signed_arith, to)))) in
    kept_among c.args.rule c.args.dst _ _ c.args.transitions.start c.args.transitions.end (pos c.args.second) c.in_ok-offset.offset.seconds
    c.part_twice.result.first c.part_twice.result.end _
    c.requires.saving c.requires.transitions c.in_ok-offset.ensures.far.0 c.in_ok-offset.ensures.far.1 c.in_ok-offset.ensures.shown
    (omega (arith, signed_casts, first, then.0)) (omega (arith, signed_casts, last, then.1)) from to is_end one other
