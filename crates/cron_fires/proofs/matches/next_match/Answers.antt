use Rattle.cron_fires.proofs.MatchLemmas.{is_match_of, next_of}
use Rattle.cron_fires.proofs.matches.next_match.Goals as goal

pub past-requires-clause-matching : goal.past-requires-clause-matching
past-requires-clause-matching g c = is_match_of (g.T.CivilSeconds.has c.args.table.now) c.args.second c.requires

pub returns : goal.returns
returns g c = next_of (g.T.CivilSeconds.has c.args.table.now) c.args.second c.past.result c.past.ensures.nearest
