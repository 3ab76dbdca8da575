use Rattle.std.proofs.Common.{inl, rules}
use Rattle.cron_walk_listing.proofs.answer.answer.Goals as goal

pub returns-in-Some-clause-answered : goal.returns-in-Some-clause-answered
returns-in-Some-clause-answered g c = inl (search rules, (c.in-Some.request, c.in-Some.ensures.value, c.list.ensures.answered))

pub returns-in-Some-clause-mark : goal.returns-in-Some-clause-mark
returns-in-Some-clause-mark c = search rules

pub returns-in-None-clause-answered : goal.returns-in-None-clause-answered
returns-in-None-clause-answered c = search rules

pub returns-in-None-clause-mark : goal.returns-in-None-clause-mark
returns-in-None-clause-mark c = search rules
