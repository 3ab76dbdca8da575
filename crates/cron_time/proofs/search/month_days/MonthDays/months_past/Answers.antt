use Rattle.std.proofs.Common.{◌+◌, sym, ◌∙◌, arith}
use Rattle.cron_time.proofs.Searches.LeapLemmas.{leads_reach, leads_start}
use Rattle.cron_time.proofs.Searches.MonthDayLemmas.{bits_nearest, longest_31, matching_fits, month_found}
use Rattle.cron_time.proofs.Searches.RowLemmas.{reach_on, rest_fails, rest_past}
use Rattle.cron_time.proofs.search.month_days.MonthDays.months_past.Goals as goal

pub loop-next-init : goal.loop-next-init
loop-next-init c = record {
  known = c.requires.known;
  reached = leads_start c.args.way c.args.fields.now c.args.month c.next_month-next.result c.next_month-next.ensures.leads;
  bound = c.next_month-next.ensures.bound;
}

pub returns-in-Some-in_rest_of_year-clause-nearest : goal.returns-in-Some-in_rest_of_year-clause-nearest
returns-in-Some-in_rest_of_year-clause-nearest c =
    let there = c.in-Some-in_rest_of_year.there in
    let days = rw c.in-Some-in_rest_of_year.is at c.in_rest_of_year.ensures.days in
    let come = rw c.in-Some-in_rest_of_year.is at c.in_rest_of_year.ensures.months in
    let first = rw c.in-Some-in_rest_of_year.is at c.in_rest_of_year.ensures.first in
    rw c.number.ensures.number (month_found c.args.way c.args.fields.now c.args.month there.month c.in-Some-in_rest_of_year.first
    (reach_on c.args.way c.args.fields.now _ _ c.in-Some.month there.month (rw c.in-Some.is at c.loop-next.invariant.reached) come)
    (bits_nearest c.args.way _ _ _ _ days first))

pub returns-in-Some-in_rest_of_year-clause-range : goal.returns-in-Some-in_rest_of_year-clause-range
returns-in-Some-in_rest_of_year-clause-range c =
    let there = c.in-Some-in_rest_of_year.there in
    let days = rw c.in-Some-in_rest_of_year.is at c.in_rest_of_year.ensures.days in
    let first = rw c.in-Some-in_rest_of_year.is at c.in_rest_of_year.ensures.first in
    let fits = matching_fits c.args.fields.now there.month (c.in-Some-in_rest_of_year.first + 1)
    (sym (days c.in-Some-in_rest_of_year.first) ∙ first.passes) in
    let short = longest_31 there.month in
    ((c.number.ensures.bound.0, c.number.ensures.bound.1, fits.0, omega (arith, fits, short)), sym c.number.ensures.number)

pub loop-next-preserved : goal.loop-next-preserved
loop-next-preserved c =
    let rest = rw c.in_default-in_rest_of_year.is at c.in_rest_of_year.ensures.months in
    record {
      known = c.loop-next.invariant.known;
      reached = leads_reach c.args.way c.args.fields.now _ _ c.in-Some.month c.month_in_year_past-next.result
          (rw c.in-Some.is at c.loop-next.invariant.reached)
          (rest_fails c.args.way c.args.fields.now _ c.in-Some.month rest)
          c.month_in_year_past-next.ensures.leads;
      bound = c.month_in_year_past-next.ensures.bound;
    }

pub month_in_year_past-next-requires-clause-rest : goal.month_in_year_past-next-requires-clause-rest
month_in_year_past-next-requires-clause-rest c =
    rest_past c.args.way c.args.fields.now c.in-Some.month (rw c.in_default-in_rest_of_year.is at c.in_rest_of_year.ensures.months)
