use Rattle.std.proofs.Common.{refl}
use Rattle.cron_time.proofs.Searches.CivilSecondLemmas.{no_match}
use Rattle.cron_time.proofs.search.civil_seconds.nearest_match.Goals as goal

pub returns-then-not-some_month_has_a_day-clause-nearest : goal.returns-then-not-some_month_has_a_day-clause-nearest
returns-then-not-some_month_has_a_day-clause-nearest c = λ k lies.
    no_match c.args.fields.now (rw c.of-members.ensures at (c.if-not-some_month_has_a_day.ensures refl)) k

pub match_from-requires-clause-days : goal.match_from-requires-clause-days
match_from-requires-clause-days c = c.unknown-days.ensures c.args.fields.now
