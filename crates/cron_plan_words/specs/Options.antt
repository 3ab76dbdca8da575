-- Which days the options of a plan allow, and why they are refused.
use Rattle.std.specs.Prelude.{◌≡◌, ◌⊎◌, ℕ, Bool, true, false, ◌&&◌, not, nat_abs, List, Option, Some, None}
use Rattle.std.specs.Borrow.{Bor}
use Rattle.jiff_core.specs.declared.civil.date.Date.{Date}
use Rattle.jiff_core.specs.Date.{epoch_day}
use Rattle.cron_days.specs.Rules.{is_between, is_listed, is_steps_apart, place_of}
use Rattle.cron_days.specs.Refusals.{RefusesDates, RefusesEvery, RefusesSpan}
use Rattle.cron_days.specs.declared.day.RuleError.{RuleError}
use Rattle.cron_days.specs.declared.day.RuleError.TheVariants.{OutOfMemory}
use Rattle.cron_plan_words.specs.declared.options.Options.{Options}
use Rattle.cron_plan_words.specs.declared.options.Step.{Step}

abbrev pub is_none : {A : Type 0} → Option A → Bool
is_none None = true
is_none (Some x) = false

-- none of the options is there
abbrev pub has_none : Options → Bool
has_none o = is_none o.every && is_none o.first && is_none o.last && is_none o.holidays && is_none o.moves && not o.except

-- the day lies in one of the days, weeks or months of the step
abbrev pub is_on_step : Step → ℕ → Bool
is_on_step s n = is_steps_apart s.count (place_of s.period (nat_abs (epoch_day s.anchor))) (place_of s.period n)

-- the day lies in one of those of `--every`, if it is there
abbrev pub is_on_steps : Option Step → ℕ → Bool
is_on_steps None n = true
is_on_steps (Some s) n = is_on_step s n

-- the day is none of the dates
abbrev pub is_no_holiday : List Date → ℕ → Bool
is_no_holiday dates n = not (is_listed dates n)

-- the day is none of the dates of `--holidays`; without that option each day is none
abbrev pub is_none_of : Option (Bor (List Date)) → ℕ → Bool
is_none_of None n = true
is_none_of (Some dates) n = is_no_holiday dates.now n

-- the day is on a step, from the first day to the last one, and no holiday
abbrev pub allows_options : Options → ℕ → Bool
allows_options o n = is_on_steps o.every n && (is_between o.first o.last n && is_none_of o.holidays n)

-- why `--every` is refused: it is no rule, or memory ran out
abbrev pub RefusesStep : Step → RuleError → Type 0
RefusesStep s why = (why ≡ OutOfMemory) ⊎ RefusesEvery s.count s.anchor why

-- why `--first` and `--last` are refused
abbrev pub RefusesEnds : Option Date → Option Date → RuleError → Type 0
RefusesEnds first last why = (why ≡ OutOfMemory) ⊎ RefusesSpan first last why

abbrev pub RefusesSteps : Option Step → RuleError → Type 0
RefusesSteps None why = ⊥
RefusesSteps (Some s) why = RefusesStep s why

abbrev pub RefusesHolidays : Option (Bor (List Date)) → RuleError → Type 0
RefusesHolidays None why = ⊥
RefusesHolidays (Some dates) why = RefusesDates dates.now why

-- why options are refused: by `--every`, by `--first` and `--last`, or by `--holidays`
abbrev pub RefusesOptions : Options → RuleError → Type 0
RefusesOptions o why = RefusesSteps o.every why ⊎ RefusesEnds o.first o.last why ⊎ RefusesHolidays o.holidays why
