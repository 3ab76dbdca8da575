use Rattle.std.proofs.Common.{sym, ◌∙◌}
use Rattle.cron_canonical.proofs.DayLemmas.{days_alone, days_behind, none_counted}
use Rattle.cron_canonical.proofs.text.last_day_text.Goals as goal

pub returns-then-count-eq0-clause-text : goal.returns-then-count-eq0-clause-text
returns-then-count-eq0-clause-text c =
    days_alone c.args.days.now (sym c.last_day.ensures ∙ c.if-not-last_day.false) (none_counted _ c.count.result c.count.ensures c.if-count-eq0.true)

pub returns-clause-text : goal.returns-clause-text
returns-clause-text c =
    days_behind c.args.days.now (sym c.last_day.ensures ∙ c.if-not-last_day.false) (λ none. c.if-count-eq0.false (c.count.ensures ∙ none))
