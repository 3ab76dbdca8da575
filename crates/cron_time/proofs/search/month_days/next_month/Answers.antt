use Rattle.std.proofs.Common.{arith}
use Rattle.cron_time.proofs.Searches.RowLemmas.{row_next, row_none}
use Rattle.cron_time.proofs.search.month_days.next_month.Goals as goal

pub returns-in-Some-clause-leads : goal.returns-in-Some-clause-leads
returns-in-Some-clause-leads c =
    (row_next c.args.way c.args.fields.now c.args.month c.months_of_year.result c.in-Some.place c.requires.matching c.months_of_year.ensures
    (rw c.in-Some.is at c.bit_past.ensures)).1

pub returns-in-Some-clause-bound : goal.returns-in-Some-clause-bound
returns-in-Some-clause-bound c =
    let next = row_next c.args.way c.args.fields.now c.args.month c.months_of_year.result c.in-Some.place c.requires.matching c.months_of_year.ensures
    (rw c.in-Some.is at c.bit_past.ensures) in
    (omega (arith, c.requires.range), omega (arith, next.0, c.requires.range))

pub month_in_year_past-requires-clause-rest : goal.month_in_year_past-requires-clause-rest
month_in_year_past-requires-clause-rest c =
    row_none c.args.way c.args.fields.now c.args.month c.months_of_year.result c.months_of_year.ensures (rw c.in_default.is at c.bit_past.ensures)
