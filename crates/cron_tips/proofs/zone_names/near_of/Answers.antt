use Rattle.cron_tips.proofs.NearLemmas.{near_within}
use Rattle.cron_tips.proofs.zone_names.near_of.Goals as goal

pub text_at-requires : goal.text_at-requires
text_at-requires c = near_within c.args.word.now c.args.names.now c.in_ok-at.at c.in_ok-at.ensures

pub returns : goal.returns
returns c = (c.in_ok-at.at, c.in_ok-at.ensures, c.text_at.ensures)
