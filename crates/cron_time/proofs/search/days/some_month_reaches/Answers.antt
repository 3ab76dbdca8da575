use Rattle.cron_time.proofs.search.days.some_month_reaches.Goals as goal

pub returns : goal.returns
returns c = λ _ m h. rw c.in_default.is at (c.loop-next.invariant.short m) tt h
