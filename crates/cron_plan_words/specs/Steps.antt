-- How often days are allowed, as a word says it.
use Rattle.std.specs.Prelude.{◌≡◌, ◌++◌, ℕ, List, Option, MatchOption, codes}
use Rattle.std.specs.Str.Parse.{digits_value}
use Rattle.cron_walk_listing.specs.Arguments.{IsCount}
use Rattle.cron_days.specs.declared.period.Period.{Period}
use Rattle.cron_days.specs.declared.period.Period.TheVariants.{Day, Week, Month}

-- the letters that follow the number
abbrev pub unit_of : Period → List ℕ
unit_of Day = codes "d"
unit_of Week = codes "w"
unit_of Month = codes "mo"

-- the text is the number n, of 32 bits, in digits, and the letters of a period
abbrev pub IsStep : List ℕ → ℕ → Period → Type 0
IsStep text n period = (digits : List ℕ) × (text ≡ digits ++ unit_of period) × IsCount digits × (n ≡ digits_value 10 digits)

-- the number and the period of the text, or `None` if it is none
abbrev pub TellsStep : List ℕ → Option (ℕ × Period) → Type 0
TellsStep text answer = MatchOption answer ((n : ℕ) (period : Period) → IsStep text n period → ⊥) (λ step. IsStep text step.0 step.1)
