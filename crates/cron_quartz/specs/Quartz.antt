-- What an expression of Quartz means: a union of schedules, of which one must match.
use Rattle.std.specs.Prelude.{◌≡◌, ℕ, ◌==◌, ◌&&◌, ◌-◌, Bool, List, [], ◌∷◌, Result, Ok, Err, Option, Some, None, codes, drop, length, slice_index, take, if◌then◌else◌}
use Rattle.std.specs.Char.{eq_ignore_ascii_case}
use Rattle.std.specs.Str.{bytes_eq}
use Rattle.cron_units.specs.Sets.{Sets}
use Rattle.cron_units.specs.Units.{TimeUnit, unmarked, whole}
use Rattle.cron_units.specs.Units as units
use Rattle.cron_crontab.specs.Crontab.{words}
use Rattle.cron_crontab.specs.Items.{and_then, pieces}
use Rattle.cron_quartz.specs.Refusals.{Reason, Fault, no_field, eighth_field, no_days, both_days, missing, no_form}
use Rattle.cron_quartz.specs.Items.{end_of, last_of, number_in, set_read, told}
use Rattle.cron_quartz.specs.Days.{Days, dates, before_last, nearest_workday, last_workday, weekdays, last_weekday, nth_weekday, schedules_of}

-- ---- days of the month

-- the text begins with the letter, in either case
abbrev pub begins_with : ℕ → List ℕ → Bool
begins_with letter text = eq_ignore_ascii_case (slice_index text 0) letter

abbrev pub ends_with : ℕ → List ℕ → Bool
ends_with letter text = eq_ignore_ascii_case (slice_index text (length text - 1)) letter

-- all but the last byte
abbrev pub all_but_last : List ℕ → List ℕ
all_but_last text = take (length text - 1) text

-- the form `15W`, of which `text` is the part before the `W`
abbrev pub near_of : List ℕ → Result Days Reason
near_of text = and_then (number_in 1 31 text) (λ n. Ok (nearest_workday n))

-- the form `L-3` or `L-3W`, of which `text` is the part after `L-`
abbrev pub offset_of : List ℕ → Result Days Reason
offset_of text =
    if ends_with 87 text then and_then (number_in 0 30 (all_but_last text)) (λ k. Ok (last_workday k))
    else and_then (number_in 0 30 text) (λ k. Ok (before_last k))

-- the form `L`, `LW`, `L-3` or `L-3W`, of which `text` is the part after the `L`
abbrev pub last_form_of : List ℕ → Result Days Reason
last_form_of text =
    if length text == 0 then Ok (before_last 0)
    else if begins_with 45 text then offset_of (drop 1 text)
    else if length text == 1 && begins_with 87 text then Ok (last_workday 0)
    else Err no_form

-- what the field of the days of the month means: one of the forms, or else items
abbrev pub dates_of : List ℕ → Result Days Fault
dates_of word =
    if begins_with 76 word then told units.days_of_month word (last_form_of (drop 1 word))
    else if ends_with 87 word then told units.days_of_month word (near_of (all_but_last word))
    else and_then (set_read units.days_of_month word) (λ days. Ok (dates (unmarked days)))

-- ---- days of the week

abbrev pub last_weekday_of : List ℕ → Result Days Reason
last_weekday_of text = and_then (end_of units.days_of_week text) (λ w. Ok (last_weekday w.number))

-- the form `6#3` of the day of the week w, from the pieces after the `#`
abbrev pub nth_place : ℕ → List (List ℕ) → Result Days Reason
nth_place w [] = Err missing
nth_place w (place ∷ more) = and_then (number_in 1 5 place) (λ n. last_of place more (nth_weekday w n))

abbrev pub nth_of : List ℕ → List (List ℕ) → Result Days Reason
nth_of day places = and_then (end_of units.days_of_week day) (λ w. nth_place w.number places)

abbrev pub cut_weekdays : List ℕ → List (List ℕ) → Result Days Fault
cut_weekdays word (day ∷ place ∷ more) = told units.days_of_week word (nth_of day (place ∷ more))
cut_weekdays word _ = and_then (set_read units.days_of_week word) (λ week. Ok (weekdays week))

-- what the field of the days of the week means: one of the forms, or else items; the word `L` is
-- Saturday
abbrev pub weekdays_of : List ℕ → Result Days Fault
weekdays_of word =
    if length word == 1 && begins_with 76 word then Ok (weekdays (7 ∷ []))
    else if ends_with 76 word then told units.days_of_week word (last_weekday_of (all_but_last word))
    else cut_weekdays word (pieces 35 word)

-- ---- texts

-- the word of each field, where the years may be missing
pub record Texts : Type 0 where
  pub second : List ℕ
  pub minute : List ℕ
  pub hour : List ℕ
  pub day_of_month : List ℕ
  pub month : List ℕ
  pub day_of_week : List ℕ
  pub year : Option (List ℕ)

-- the first of some words, and the words after it
abbrev pub word_of : TimeUnit → List (List ℕ) → Result (List ℕ × List (List ℕ)) Fault
word_of u [] = Err (no_field u)
word_of u (word ∷ more) = Ok (word, more)

-- the word of the years, if there is one; no word may follow it
abbrev pub year_of : List (List ℕ) → Result (Option (List ℕ)) Fault
year_of [] = Ok None
year_of (year ∷ []) = Ok (Some year)
year_of (year ∷ more ∷ rest) = Err (eighth_field more)

-- six words or seven as the fields, in this order
abbrev pub texts_of : List (List ℕ) → Result Texts Fault
texts_of ws =
    and_then (word_of units.seconds ws) (λ a.
    and_then (word_of units.minutes a.1) (λ b.
    and_then (word_of units.hours b.1) (λ c.
    and_then (word_of units.days_of_month c.1) (λ d.
    and_then (word_of units.months d.1) (λ e.
    and_then (word_of units.days_of_week e.1) (λ f.
    and_then (year_of f.1) (λ year.
    Ok (record { second = a.0; minute = b.0; hour = c.0; day_of_month = d.0; month = e.0; day_of_week = f.0; year = year }))))))))

abbrev pub years_of : Option (List ℕ) → Result (List ℕ) Fault
years_of None = Ok (whole units.years)
years_of (Some word) = set_read units.years word

-- the schedule of an expression's other fields, with all days
abbrev pub times_of : Texts → Result Sets Fault
times_of t =
    and_then (set_read units.seconds t.second) (λ seconds.
    and_then (set_read units.minutes t.minute) (λ minutes.
    and_then (set_read units.hours t.hour) (λ hours.
    and_then (set_read units.months t.month) (λ months.
    and_then (years_of t.year) (λ years.
    Ok (record {
      seconds = seconds;
      minutes = minutes;
      hours = hours;
      days_of_month = unmarked (whole units.days_of_month);
      months = months;
      days_of_week = whole units.days_of_week;
      years = years;
    }))))))

abbrev pub is_question : List ℕ → Bool
is_question word = bytes_eq word (codes "?")

-- what the two fields of days mean: one is `?`, and the other is read
abbrev pub days_of : List ℕ → List ℕ → Result Days Fault
days_of month_days week_days =
    if is_question month_days then (if is_question week_days then Err no_days else weekdays_of week_days)
    else if is_question week_days then dates_of month_days
    else Err both_days

-- what words mean, or what their first fault is
abbrev pub outcome_of : List (List ℕ) → Result (List Sets) Fault
outcome_of ws =
    and_then (texts_of ws) (λ texts.
    and_then (times_of texts) (λ times.
    and_then (days_of texts.day_of_month texts.day_of_week) (λ days. Ok (schedules_of days times))))

-- the text means these schedules
abbrev pub Means : List ℕ → List Sets → Type 0
Means text schedules = outcome_of (words text) ≡ Ok schedules

-- the text is refused for this
abbrev pub Refuses : List ℕ → Fault → Type 0
Refuses text fault = outcome_of (words text) ≡ Err fault
