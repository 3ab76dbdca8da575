use Rattle.std.proofs.Common.{ℕ, List}
use Rattle.cron_days.specs.declared.period.Period.{Period}
use Rattle.cron_days.specs.declared.period.Period.TheVariants.{Day, Week, Month}
use Rattle.cron_plan_words.specs.Steps.{IsStep}
use Rattle.cron_plan_words.proofs.steps.step_of.Goals as goal

none : (text : List ℕ) (n : ℕ) (period : Period) → ((k : ℕ) → IsStep text k Day → ⊥) → ((k : ℕ) → IsStep text k Week → ⊥)
    → ((k : ℕ) → IsStep text k Month → ⊥) → IsStep text n period → ⊥
none text n Day days weeks months is = days n is
none text n Week days weeks months is = weeks n is
none text n Month days weeks months is = months n is

pub returns-in-None : goal.returns-in-None
returns-in-None c = λ n period is. none c.args.text.now n period c.in_default.ensures c.in_default-count_before.ensures c.in-None.ensures is
