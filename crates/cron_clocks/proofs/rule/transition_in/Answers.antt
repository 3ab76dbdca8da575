use Rattle.std.proofs.Common.{◌∙◌, sym, arith, rules, FitsSigned, w32, w64, to_z-of_z}
use Rattle.jiff_core.proofs.CalendarLemmas.{days_in_year_bounds}
use Rattle.jiff_core.proofs.SignedLemmas.{signed_arith}
use Rattle.jiff_tz.proofs.YearLemmas.{back_year}
use Rattle.cron_clocks.proofs.SpanLemmas.{transition_found, transition_lacking}
use Rattle.cron_clocks.proofs.rule.transition_in.Goals as goal

pub returns-in-Some-clause-transition : goal.returns-in-Some-clause-transition
returns-in-Some-clause-transition c =
    let back = back_year c.args.year c.requires.year in
    let day = rw back at c.day_in.ensures in
    let length = days_in_year_bounds c.args.year in
    let fits : FitsSigned w64 c.clamp_to_span.result = search rules in
    let fits-second : FitsSigned w64 c.second_of.result = search rules in
    let fits-day : FitsSigned w32 c.in-Some.day = search rules in
    let fits-time : FitsSigned w32 c.args.transition.time = search rules in
    let found = rw (to_z-of_z fits-second) at c.clamp_to_span.ensures.value in
    let bound = c.clamp_to_span.ensures.bound in
    rw (to_z-of_z fits)
    (record {
      value = transition_found c.args.year c.args.transition c.in-Some.day c.args.span.first c.args.span.end c.second_of.result c.clamp_to_span.result
          (sym day ∙ c.in-Some.is) c.requires.first c.requires.end found (rw (to_z-of_z fits-day, to_z-of_z fits-time) at c.second_of.ensures);
      low = omega (arith, signed_arith, c.requires.first, bound.0);
      high = omega (arith, signed_arith, c.requires.end, bound.1);
    })

pub returns-in-None-clause-transition : goal.returns-in-None-clause-transition
returns-in-None-clause-transition c =
    let back = back_year c.args.year c.requires.year in
    let day = rw back at c.day_in.ensures in
    let length = days_in_year_bounds c.args.year in
    let fits : FitsSigned w64 c.args.span.end = search rules in
    rw (to_z-of_z fits)
    (record {
      value = transition_lacking c.args.year c.args.transition c.args.span.end (sym day ∙ c.in-None.is) c.requires.end;
      low = omega (arith, signed_arith, c.requires.end);
      high = omega (arith, signed_arith, c.requires.end);
    })

pub clamp_to_span-requires : goal.clamp_to_span-requires
clamp_to_span-requires c =
    let length = days_in_year_bounds c.args.year in
    omega (arith, signed_arith, length, c.requires.first, c.requires.end)

pub returns-in-Some-clause-bound : goal.returns-in-Some-clause-bound
returns-in-Some-clause-bound c =
    let fits : FitsSigned w64 c.clamp_to_span.result = search rules in
    let bound = c.clamp_to_span.ensures.bound in
    let low = c.requires.low in
    let high = c.requires.high in
    rw (to_z-of_z fits) (omega (arith, signed_arith, low.0, bound.0), omega (arith, signed_arith, high.1, bound.1))

pub returns-in-None-clause-bound : goal.returns-in-None-clause-bound
returns-in-None-clause-bound c =
    let fits : FitsSigned w64 c.args.span.end = search rules in
    rw (to_z-of_z fits) c.requires.high
