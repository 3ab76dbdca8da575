-- Why a rule can't be made.
use Rattle.std.specs.Prelude.{◌≡◌, ℕ, ◌<◌, pos, ◌<ℤ◌, ◌≤ℤ◌, ◌⊎◌, List, Contains, Option, Some}
use Rattle.jiff_core.specs.declared.civil.date.Date.{Date}
use Rattle.jiff_core.specs.Date.{epoch_day}
use Rattle.cron_moments.specs.Civil.{days_in_range}
use Rattle.cron_days.specs.declared.day.RuleError.{RuleError}
use Rattle.cron_days.specs.declared.day.RuleError.TheVariants.{OutOfRange, NoCount, Turned, OutOfMemory}

-- the date isn't from 1970-01-01 to 2100-12-31
abbrev pub IsOutside : Date → Type 0
IsOutside date = (epoch_day date <ℤ pos 0) ⊎ (pos days_in_range ≤ℤ epoch_day date)

-- a list of dates isn't a rule: one of them is out of range, or memory ran out
abbrev pub RefusesDates : List Date → RuleError → Type 0
RefusesDates dates (OutOfRange date) = Contains dates date × IsOutside date
RefusesDates dates OutOfMemory = Unit {0}
RefusesDates dates (NoCount _) = ⊥
RefusesDates dates (Turned _ _) = ⊥

-- a date that may be left out is out of range
abbrev pub RefusesDate : Option Date → RuleError → Type 0
RefusesDate given (OutOfRange date) = (given ≡ Some date) × IsOutside date
RefusesDate given OutOfMemory = ⊥
RefusesDate given (NoCount _) = ⊥
RefusesDate given (Turned _ _) = ⊥

-- one day, week or month in so many isn't a rule: the number isn't from 1 to 10,000, or the anchor is out of range
abbrev pub RefusesEvery : ℕ → Date → RuleError → Type 0
RefusesEvery count anchor (NoCount n) = (n ≡ count) × ((count ≡ 0) ⊎ (10_000 < count))
RefusesEvery count anchor (OutOfRange date) = (date ≡ anchor) × IsOutside date
RefusesEvery count anchor OutOfMemory = ⊥
RefusesEvery count anchor (Turned _ _) = ⊥

-- the days between two dates, either of which may be left out, aren't a rule: one is out of range, or the first comes after the last
abbrev pub RefusesSpan : Option Date → Option Date → RuleError → Type 0
RefusesSpan first last (OutOfRange date) = ((first ≡ Some date) ⊎ (last ≡ Some date)) × IsOutside date
RefusesSpan first last (Turned a b) = (first ≡ Some a) × (last ≡ Some b) × (epoch_day b <ℤ epoch_day a)
RefusesSpan first last OutOfMemory = ⊥
RefusesSpan first last (NoCount _) = ⊥
