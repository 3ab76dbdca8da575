use Rattle.cron_counting.proofs.PartLemmas.{gathered_on}
use Rattle.cron_counting.proofs.counts.gather_day.Goals as goal

pub returns : goal.returns
returns c = gathered_on c.gather.result c.args.schedules.now c.gather.new.times.items c.args.day _ _ c.civil_of.ensures c.date.ensures c.gather.ensures
