-- The sets of an expression that is written in the program.
use Rattle.std.specs.Prelude.{ℕ, List, [], ◌∷◌, codes}
use Rattle.cron.specs.Words.{Sets, days_of_month, months, unmarked, whole, years}

abbrev pub work_days_text : List ℕ
work_days_text = codes "0 30 9 * * Mon-Fri"

-- half past nine from Monday to Friday
abbrev pub work_days : Sets
work_days = record {
  seconds = 0 ∷ [];
  minutes = 30 ∷ [];
  hours = 9 ∷ [];
  days_of_month = unmarked (whole days_of_month);
  months = whole months;
  days_of_week = 2 ∷ 3 ∷ 4 ∷ 5 ∷ 6 ∷ [];
  years = whole years;
}
