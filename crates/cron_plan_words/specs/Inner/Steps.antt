-- The number before the letters of a period.
use Rattle.std.specs.Prelude.{ℕ, List, Option, MatchOption}
use Rattle.cron_days.specs.declared.period.Period.{Period}
use Rattle.cron_plan_words.specs.Steps.{IsStep}

abbrev pub TellsCount : List ℕ → Period → Option ℕ → Type 0
TellsCount text period answer = MatchOption answer ((n : ℕ) → IsStep text n period → ⊥) (λ n. IsStep text n period)
