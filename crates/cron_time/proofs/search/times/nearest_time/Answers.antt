use Rattle.std.proofs.Common.{Some, None, refl, rules}
use Rattle.cron_time.specs.Search.Times.{time_of_parts}
use Rattle.cron_time.proofs.Searches.NearestTimeLemmas.{nearest_time}
use Rattle.cron_time.proofs.search.times.nearest_time.Goals as goal

pub returns-in-Some-clause-time : goal.returns-in-Some-clause-time
returns-in-Some-clause-time c =
    let nearest = rw c.of-members.ensures at c.in-Some.ensures.nearest in
    nearest_time c.args.way c.args.fields.now (time_of_parts (c.args.hour, c.args.minute, c.args.second)) _ (Some c.in-Some.time) c.requires.sets
    c.requires.minute c.requires.second refl nearest

pub returns-in-None-clause-time : goal.returns-in-None-clause-time
returns-in-None-clause-time c =
    let nearest = rw c.of-members.ensures at c.in-None.ensures.nearest in
    nearest_time c.args.way c.args.fields.now (time_of_parts (c.args.hour, c.args.minute, c.args.second)) _ None c.requires.sets c.requires.minute
    c.requires.second refl nearest

pub returns-in-Some-clause-questions : goal.returns-in-Some-clause-questions
returns-in-Some-clause-questions c = search rules

pub returns-in-None-clause-questions : goal.returns-in-None-clause-questions
returns-in-None-clause-questions c = search rules
