use Rattle.cron_time.proofs.Searches.RowLemmas.{month_bare, row_leads, row_smaller}
use Rattle.cron_time.proofs.search.month_days.MonthDays.in_rest_of_year.Goals as goal

pub loop-next-preserved : goal.loop-next-preserved
loop-next-preserved c =
    let s = c.args.fields.now in
    let come = rw c.in-Some.is at c.loop-next.invariant in
    let days = rw (c.of-there.ensures.month, c.month.ensures, c.of_number-year.ensures) at c.of-there.ensures.days in
    let none = rw c.in_default-first_bit.is at c.first_bit.ensures in
    row_leads c.args.way s c.args.from c.in-Some.place c.months_of_year-months.result c.bit_past-next.result c.requires.matching come.0
    c.months_of_year-months.ensures come.1 (month_bare c.args.way s _ _ days none) c.bit_past-next.ensures

pub loop-next-smaller : goal.loop-next-smaller
loop-next-smaller c =
    let come = rw c.in-Some.is at c.loop-next.invariant in
    rw c.in-Some.is (row_smaller c.args.way c.in-Some.place c.months_of_year-months.result c.bit_past-next.result come.0 c.bit_past-next.ensures)
