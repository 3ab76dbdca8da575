-- Days and months as people name them, and times of day. Days are numbered from 1970-01-01.
use Rattle.std.specs.Prelude.{◌≡◌, ◌⊎◌, ◌<◌, ◌+◌, ◌*◌, ◌++◌, ◌∷◌, ℕ, List, codes}
use Rattle.cron_moments.specs.Calendar.{day_number, length_of, weekday_number}
use Rattle.cron_moments.specs.CivilDates.{date_numbered}
use Rattle.cron_moments.specs.MomentText.{two_digits}
use Rattle.cron_answers.specs.Periods.{NamesMonth}
use Rattle.cron_answers.specs.declared.period.Period.{Period}

-- the word names the day of the week with this number, from 1 for Sunday to 7 for Saturday
abbrev pub NamesWeekday : List ℕ → ℕ → Type 0
NamesWeekday word n =
    ((word ≡ codes "sunday") × (n ≡ 1))
    ⊎ ((word ≡ codes "monday") × (n ≡ 2))
    ⊎ ((word ≡ codes "tuesday") × (n ≡ 3))
    ⊎ ((word ≡ codes "wednesday") × (n ≡ 4))
    ⊎ ((word ≡ codes "thursday") × (n ≡ 5))
    ⊎ ((word ≡ codes "friday") × (n ≡ 6))
    ⊎ ((word ≡ codes "saturday") × (n ≡ 7))

-- the day falls on this day of the week
abbrev pub IsOn : ℕ → ℕ → Type 0
IsOn weekday day = weekday_number (date_numbered day).0 ≡ weekday

-- `day` is the first after `today` that falls on this day of the week
pub record IsNextOn (weekday today day : ℕ) : Type 0 where
  pub after : today < day
  pub is_on : IsOn weekday day
  pub first : (earlier : ℕ) → today < earlier → earlier < day → IsOn weekday earlier → ⊥

-- the word names a day, by the present one
abbrev pub IsDay : List ℕ → ℕ → ℕ → Type 0
IsDay word today day =
    ((word ≡ codes "today") × (day ≡ today))
    ⊎ ((word ≡ codes "tomorrow") × (day ≡ today + 1))
    ⊎ ((word ≡ codes "yesterday") × (day + 1 ≡ today))
    ⊎ ((weekday : ℕ) × NamesWeekday word weekday × IsNextOn weekday today day)

-- The days from `first` on and before `end` are the day or the month that the text names.
abbrev pub AreDays : List ℕ → ℕ → ℕ → ℕ → Type 0
AreDays text today first end =
    (IsDay text today first × (end ≡ first + 1))
    ⊎ ((p : Period) × NamesMonth text p × (first ≡ day_number p.first 1) × (end ≡ first + length_of p.first))

-- the text is an hour and a minute, as `14:30`: n seconds after midnight
pub record IsMinuteOfDay (text : List ℕ) (n : ℕ) : Type 0 where
  pub hour : ℕ
  pub minute : ℕ
  pub hour_in : hour < 24
  pub minute_in : minute < 60
  pub spelled : text ≡ two_digits hour ++ 58 ∷ two_digits minute
  pub value : n ≡ hour * 3600 + minute * 60

-- the text is an hour, a minute and a second, as `14:30:15`
pub record IsSecondOfDay (text : List ℕ) (n : ℕ) : Type 0 where
  pub hour : ℕ
  pub minute : ℕ
  pub second : ℕ
  pub hour_in : hour < 24
  pub minute_in : minute < 60
  pub second_in : second < 60
  pub spelled : text ≡ two_digits hour ++ 58 ∷ (two_digits minute ++ 58 ∷ two_digits second)
  pub value : n ≡ hour * 3600 + minute * 60 + second

abbrev pub IsTimeOfDay : List ℕ → ℕ → Type 0
IsTimeOfDay text n = IsMinuteOfDay text n ⊎ IsSecondOfDay text n
