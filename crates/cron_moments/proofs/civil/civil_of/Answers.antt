use Rattle.std.proofs.Common.{◌∙◌, rules}
use Rattle.cron_moments.proofs.CivilLemmas.{is_civil_of}
use Rattle.cron_moments.proofs.civil.civil_of.Goals as goal

pub returns : goal.returns
returns c = c.from_plain.ensures ∙ is_civil_of _ c.args.second (search rules) c.date_of.ensures c.from_second.ensures.seconds c.from_second.ensures.subsec
