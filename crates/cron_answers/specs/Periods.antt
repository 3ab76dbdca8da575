-- Which months a calendar shows.
use Rattle.std.specs.Prelude.{◌≡◌, ◌⊎◌, ◌≤◌, ◌<◌, ◌+◌, ◌*◌, ◌++◌, ◌∷◌, ℕ, List}
use Rattle.cron_moments.specs.Calendar.{first_month, months_end}
use Rattle.cron_moments.specs.MomentText.{four_digits, two_digits}
use Rattle.cron_answers.specs.declared.period.Period.{Period}

-- a year from 1970 to 2100, and the months from `first` on and before `end`, numbered from January
-- of the year 0
pub record IsPeriod (p : Period) : Type 0 where
  pub from : 1970 ≤ p.year
  pub to : p.year ≤ 2100
  pub low : first_month ≤ p.first
  pub order : p.first < p.end
  pub high : p.end ≤ months_end

-- The text names a year, as `2024`, and the months are all of that year.
pub record NamesYear (text : List ℕ) (p : Period) : Type 0 where
  pub from : 1970 ≤ p.year
  pub to : p.year ≤ 2100
  pub spelled : text ≡ four_digits p.year
  pub first : p.first ≡ p.year * 12
  pub end : p.end ≡ p.year * 12 + 12

-- The text names a month of the year, from 01 for January to 12: `2024-03`.
pub record NamesMonth (text : List ℕ) (p : Period) : Type 0 where
  pub month : ℕ
  pub low : 1 ≤ month
  pub high : month ≤ 12
  pub from : 1970 ≤ p.year
  pub to : p.year ≤ 2100
  pub spelled : text ≡ four_digits p.year ++ 45 ∷ two_digits month
  pub first : p.first + 1 ≡ p.year * 12 + month
  pub end : p.end ≡ p.year * 12 + month

-- The text names a year, or a month of one.
abbrev pub Names : List ℕ → Period → Type 0
Names text p = NamesYear text p ⊎ NamesMonth text p
