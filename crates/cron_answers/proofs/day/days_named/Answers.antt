use Rattle.std.proofs.Common.{ℕ, List, inl, inr}
use Rattle.cron_answers.specs.Days.{AreDays, IsDay}
use Rattle.cron_answers.specs.Periods.{NamesMonth}
use Rattle.cron_answers.specs.declared.period.Period.{Period}
use Rattle.cron_answers.proofs.day.days_named.Goals as goal

-- a text that names neither a day nor a month
no_days : (text : List ℕ) (today first end : ℕ) → ((day : ℕ) → IsDay text today day → ⊥) → ((p : Period) → NamesMonth text p → ⊥)
    → AreDays text today first end → ⊥
no_days text today first end day month (inl h) = day first h.0
no_days text today first end day month (inr h) = month h.0 h.1

pub returns-in_default-month_named-clause-names : goal.returns-in_default-month_named-clause-names
returns-in_default-month_named-clause-names c = λ first end h.
    no_days c.args.text.now c.args.today first end c.in_default.ensures.names c.in_default-month_named.ensures h
