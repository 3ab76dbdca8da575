use Rattle.std.proofs.Common.{sym, ◌∙◌}
use Rattle.cron_time.proofs.Searches.DayLemmas.{no_month_has}
use Rattle.cron_time.proofs.search.days.some_month_has_a_day.Goals as goal

pub returns : goal.returns
returns c = λ none p.
    no_month_has c.args.members.now c.in-Some.least (sym c.takes_last_day.ensures ∙ c.if-takes_last_day.false) c.in-Some.ensures.nearest
    (λ m h. c.some_month_reaches.ensures none m h) p
