-- The five fields of a crontab's expression: what messages call them, their bounds and their names.
use Rattle.std.specs.Prelude.{ℕ, List, [], ◌∷◌, codes}
use Rattle.cron_crontab.specs.declared.field.Field.{Field}
use Rattle.cron_crontab.specs.declared.field.Field.TheVariants.{Minute, Hour, DayOfMonth, Month, DayOfWeek}

abbrev pub title : Field → List ℕ
title Minute = codes "minute"
title Hour = codes "hour"
title DayOfMonth = codes "day of month"
title Month = codes "month"
title DayOfWeek = codes "day of week"

abbrev pub least : Field → ℕ
least Minute = 0
least Hour = 0
least DayOfMonth = 1
least Month = 1
least DayOfWeek = 0

-- the greatest number of a field; days of the week go from 0 to 7, and both are Sunday
abbrev pub greatest : Field → ℕ
greatest Minute = 59
greatest Hour = 23
greatest DayOfMonth = 31
greatest Month = 12
greatest DayOfWeek = 7

abbrev pub month_names : List (List ℕ × ℕ)
month_names =
    (codes "jan", 1) ∷ (codes "feb", 2) ∷ (codes "mar", 3) ∷ (codes "apr", 4) ∷ (codes "may", 5) ∷ (codes "jun", 6)
    ∷ (codes "jul", 7) ∷ (codes "aug", 8) ∷ (codes "sep", 9) ∷ (codes "oct", 10) ∷ (codes "nov", 11) ∷ (codes "dec", 12) ∷ []

abbrev pub day_names : List (List ℕ × ℕ)
day_names =
    (codes "sun", 0) ∷ (codes "mon", 1) ∷ (codes "tue", 2) ∷ (codes "wed", 3) ∷ (codes "thu", 4) ∷ (codes "fri", 5) ∷ (codes "sat", 6) ∷ []

-- the names of a field's numbers, in small letters
abbrev pub names : Field → List (List ℕ × ℕ)
names Month = month_names
names DayOfWeek = day_names
names _ = []
