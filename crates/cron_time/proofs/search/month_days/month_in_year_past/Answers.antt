use Rattle.cron_time.proofs.Searches.RowLemmas.{year_leads}
use Rattle.cron_time.proofs.search.month_days.month_in_year_past.Goals as goal

pub returns-clause-leads : goal.returns-clause-leads
returns-clause-leads c =
    year_leads c.args.way c.args.fields.now c.args.month c.month_past_year.result c.requires.rest
    (rw c.of-members.ensures at c.month_past_year.ensures.nearest)
