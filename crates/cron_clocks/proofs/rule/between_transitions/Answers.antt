use Rattle.std.proofs.Common.{◌≡◌, ◌∙◌, ◌≤ℤ◌, ◌<ℤ◌, ℤ, pos, ◌+ℤ◌, ◌-ℤ◌, ◌*ℤ◌, ap, arith, rules, FitsSigned, w64, to_z, of_z, to_z-of_z}
use Rattle.jiff_core.proofs.SignedLemmas.{signed_casts}
use Rattle.jiff_tz.specs.PosixRule.{first_day}
use Rattle.cron_moments.specs.Civil.{civil, seconds_in_range}
use Rattle.cron_clocks.specs.Spans.{IsNarrowed, year_end}
use Rattle.cron_clocks.proofs.SpanLemmas.{told_among, first_from, fits_back, narrowed, same_year, unparted_alike}
use Rattle.cron_clocks.proofs.rule.between_transitions.Goals as goal

pub returns-clause-alike : goal.returns-clause-alike
returns-clause-alike c =
    let transitions = c.requires.transitions in
    let y = transitions.number in
    let here : (civil c.args.second).date.year ≡ y = same_year c.args.second y c.requires.range transitions.year
    (rw (← transitions.from) c.requires.low) (rw (← transitions.to) c.requires.high) in
    let start = transitions.starts in
    let end = transitions.ends in
    let in_year = c.part_twice-in_year.ensures in
    let by_start = c.part_twice-by_start.ensures in
    let by_end = c.part_twice-span.ensures in
    let whole = in_year.narrowed in
    let then = by_start.narrowed in
    let last = by_end.narrowed in
    let low : c.part_twice-span.result.first ≤ℤ pos c.args.second = omega (arith, signed_casts) in
    let high : pos c.args.second <ℤ c.part_twice-span.result.end = omega (arith, signed_casts) in
    let in_range : IsNarrowed (pos 0) (pos seconds_in_range) c.part_twice-span.result.first c.part_twice-span.result.end =
    (omega (arith, signed_casts), omega (arith, signed_casts)) in
    let after : IsNarrowed c.part_twice-in_year.result.first c.part_twice-in_year.result.end
    c.part_twice-span.result.first c.part_twice-span.result.end =
    (omega (arith, signed_casts), omega (arith, signed_casts)) in
    let fits-first : FitsSigned w64 c.args.transitions.year.first = search rules in
    let fits-last : FitsSigned w64 c.args.transitions.year.end = search rules in
    let from = narrowed _ _ _ _ _ (first_day y *ℤ pos 86_400) in_year.one after (to_z-of_z fits-first ∙ transitions.from) in
    let to = narrowed _ _ _ _ _ (year_end y) in_year.other after (to_z-of_z fits-last ∙ transitions.to) in
    let saving : ℤ = c.args.dst.offset.seconds -ℤ c.args.rule.std_offset.seconds in
    let one = narrowed _ _ _ _ _ c.args.transitions.start by_start.one last (omega (arith, signed_casts)) in
    let saved = c.saving_of-saving.ensures.value in
    let fits-start : FitsSigned w64 c.args.transitions.start = search rules in
    let fits-end : FitsSigned w64 c.args.transitions.end = search rules in
    let fits-saving : FitsSigned w64 c.saving_of-saving.result = search rules in
    let fits-on : FitsSigned w64 (c.args.transitions.start +ℤ c.saving_of-saving.result) = search rules in
    let fits-back : FitsSigned w64 (c.args.transitions.end -ℤ c.saving_of-saving.result) =
    fits_back _ _ c.args.transitions.end_near c.saving_of-saving.ensures.bound in
    let on = rw (to_z-of_z fits-start, to_z-of_z fits-saving, to_z-of_z fits-on) at by_start.other in
    let behind = rw (to_z-of_z fits-end, to_z-of_z fits-saving, to_z-of_z fits-back) at by_end.other in
    let two = narrowed _ _ _ _ _ (c.args.transitions.start +ℤ saving) on last (ap (λ (k : ℤ). c.args.transitions.start +ℤ k) saved) in
    let same : IsNarrowed c.part_twice-span.result.first c.part_twice-span.result.end c.part_twice-span.result.first c.part_twice-span.result.end =
    (omega (arith, signed_casts), omega (arith, signed_casts)) in
    let three = narrowed _ _ _ _ _ c.args.transitions.end by_end.one same (to_z-of_z fits-end) in
    let four = narrowed _ _ _ _ _ (c.args.transitions.end -ℤ saving) behind same (ap (λ (k : ℤ). c.args.transitions.end -ℤ k) saved) in
    unparted_alike c.args.rule c.args.dst c.requires.saving c.args.second c.requires.range y here _ _ c.args.transitions.start c.args.transitions.end
    in_range low high from to (first_from _ _ _ start.value) start.low start.high (first_from _ _ _ end.value) end.low end.high one two three four

pub overflow_add-start : goal.overflow_add-start
overflow_add-start c =
    let fits-start : FitsSigned w64 c.args.transitions.start = search rules in
    let fits-saving : FitsSigned w64 c.saving_of-saving.result = search rules in
    rw (to_z-of_z fits-start, to_z-of_z fits-saving) (search rules)

pub overflow_sub-end : goal.overflow_sub-end
overflow_sub-end c =
    let fits-end : FitsSigned w64 c.args.transitions.end = search rules in
    let fits-saving : FitsSigned w64 c.saving_of-saving.result = search rules in
    rw (to_z-of_z fits-end, to_z-of_z fits-saving) (search rules)

pub returns-clause-told : goal.returns-clause-told
returns-clause-told c =
    let transitions = c.requires.transitions in
    let y = transitions.number in
    let here : (civil c.args.second).date.year ≡ y = same_year c.args.second y c.requires.range transitions.year
    (rw (← transitions.from) c.requires.low) (rw (← transitions.to) c.requires.high) in
    let start = transitions.starts in
    let end = transitions.ends in
    let fits-start : FitsSigned w64 c.args.transitions.start = search rules in
    let fits-end : FitsSigned w64 c.args.transitions.end = search rules in
    let fits-saving : FitsSigned w64 c.saving_of-saving.result = search rules in
    let at : to_z w64 (of_z w64 c.from-at.result) ≡ pos c.args.second = omega (arith, signed_casts, c.from-at.ensures, c.requires.range) in
    let told = rw (
      c.from_plain.ensures,
      c.from_plain-2.ensures,
      to_z-of_z fits-start,
      to_z-of_z fits-end,
      to_z-of_z fits-saving,
      c.saving_of-saving.ensures.value,
      at,
    )
    at c.offsets_among-earlier.ensures in
    told_among c.args.rule c.args.dst c.requires.saving c.args.second c.requires.range y here _ _ _ _
    start.value start.low start.high end.value end.low end.high told

pub from-at-requires : goal.from-at-requires
from-at-requires c = search rules

pub saving_of-saving-requires : goal.saving_of-saving-requires
saving_of-saving-requires c = search rules

pub part_twice-in_year-requires-clause-low : goal.part_twice-in_year-requires-clause-low
part_twice-in_year-requires-clause-low c = search rules

pub part_twice-in_year-requires-clause-high : goal.part_twice-in_year-requires-clause-high
part_twice-in_year-requires-clause-high c = search rules

pub part_twice-by_start-requires-clause-low : goal.part_twice-by_start-requires-clause-low
part_twice-by_start-requires-clause-low c = search rules

pub part_twice-by_start-requires-clause-high : goal.part_twice-by_start-requires-clause-high
part_twice-by_start-requires-clause-high c = search rules

pub part_twice-span-requires-clause-low : goal.part_twice-span-requires-clause-low
part_twice-span-requires-clause-low c = search rules

pub part_twice-span-requires-clause-high : goal.part_twice-span-requires-clause-high
part_twice-span-requires-clause-high c = search rules

pub from_plain-requires : goal.from_plain-requires
from_plain-requires c = search rules

pub from_plain-requires-2 : goal.from_plain-requires-2
from_plain-requires-2 c = search rules

pub invariant_of-placed : goal.invariant_of-placed
invariant_of-placed c = search rules

pub offsets_among-earlier-requires : goal.offsets_among-earlier-requires
offsets_among-earlier-requires c = search rules

pub returns-clause-low : goal.returns-clause-low
returns-clause-low c = search rules

pub returns-clause-high : goal.returns-clause-high
returns-clause-high c = search rules

pub returns-clause-narrowed : goal.returns-clause-narrowed
returns-clause-narrowed c = search rules
