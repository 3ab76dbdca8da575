use Rattle.std.proofs.Common.{refl}
use Rattle.cron_comparing.proofs.ProductLemmas.{narrowed_matches}
use Rattle.cron_comparing.proofs.lengths.in_months_of.Goals as goal

pub returns-clause-matches : goal.returns-clause-matches
returns-clause-matches c =
    narrowed_matches _ _ _ _ _ c.args.length c.fields.view_is c.state_facts.ensures c.requires.0 c.requires.1 c.months_of.ensures c.years_of.ensures
    refl refl refl refl c.days_of.ensures.numbers c.days_of.ensures.unmarked c.common_members.ensures c.common_years.ensures
