use Rattle.cron_tab_missed.specs.Entries.{since_view}
use Rattle.cron_tab_missed.proofs.NoteLemmas.{knows-more}
use Rattle.cron_tab_missed.proofs.entries.start_of.Goals as goal

pub returns-then-take_one-clause-knows : goal.returns-then-take_one-clause-knows
returns-then-take_one-clause-knows c = λ before knows.
    knows-more (since_view c.args.since.now) before c.args.key.now c.args.counts.now c.take_one.new.counts knows c.take_one.ensures.now

pub returns-else-take_one-clause-knows : goal.returns-else-take_one-clause-knows
returns-else-take_one-clause-knows c = λ before knows.
    knows-more (since_view c.args.since.now) before c.args.key.now c.args.counts.now c.take_one.new.counts knows c.take_one.ensures.now
