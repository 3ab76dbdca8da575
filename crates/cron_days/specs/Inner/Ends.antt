-- The numbers of dates that may be left out.
use Rattle.std.specs.Prelude.{◌≡◌, ℕ, pos, Option, MatchOption}
use Rattle.jiff_core.specs.declared.civil.date.Date.{Date}
use Rattle.jiff_core.specs.Date.{epoch_day}

-- the number of the date, or another one without a date
abbrev pub IsNumberOr : Option Date → ℕ → ℕ → Type 0
IsNumberOr date otherwise n = MatchOption date (n ≡ otherwise) (λ d. epoch_day d ≡ pos n)
