-- What a crontab's expression means: one schedule, or two of which one suffices, or a run at the start of the machine.
use Rattle.std.specs.Prelude.{◌≡◌, ◌&&◌, ◌||◌, ◌==◌, ◌-◌, ◌++◌, ℕ, Bool, List, [], ◌∷◌, Result, Ok, Err, Option, Some, None, filter, codes, length, nat_lt, slice_index, if◌then◌else◌}
use Rattle.std.specs.List.{after_first, list_any, slice_split}
use Rattle.std.specs.Str.{bytes_eq, str_eq_ignore_ascii_case}
use Rattle.cron_units.specs.Sets.{Sets}
use Rattle.cron_units.specs.Steps.{Progression}
use Rattle.cron_units.specs.Units.{set_of, unmarked, whole}
use Rattle.cron_units.specs.Units as units
use Rattle.cron_text.specs.Tokens.{is_space}
use Rattle.cron_crontab.specs.Items.{and_then, begins_with_star, in_items, item_of, pieces}
use Rattle.cron_crontab.specs.Refusals.{Reason, Fault, refused, no_field, sixth_field, no_nickname, capital_nickname, behind_nickname, second_line}
use Rattle.cron_crontab.specs.declared.field.Field.{Field}
use Rattle.cron_crontab.specs.declared.field.Field.TheVariants.{Minute, Hour, DayOfMonth, Month, DayOfWeek}

-- ---- words

abbrev pub is_filled : List ℕ → Bool
is_filled word = nat_lt 0 (length word)

-- the words of a text: what white space separates
abbrev pub words : List ℕ → List (List ℕ)
words text = filter is_filled (slice_split is_space text)

-- a line feed, or a carriage return
abbrev pub is_break : ℕ → Bool
is_break c = c == 10 || c == 13

abbrev pub first_of : List (List ℕ) → Option (List ℕ)
first_of [] = None
first_of (word ∷ more) = Some word

-- the first word after the first line break; a text that has one is more than one line
abbrev pub further_word : List ℕ → Option (List ℕ)
further_word text = first_of (words (after_first is_break text))

-- ---- fields

-- what was read of a text, or the fault of that text in its field
abbrev pub item_or_fault : Field → List ℕ → Result Progression Reason → Result Progression Fault
item_or_fault f text (Ok item) = Ok item
item_or_fault f text (Err reason) = Err (refused f text reason)

-- the items of a field, after those already read; the first text that is no item is refused
abbrev pub items_from : Field → List Progression → List (List ℕ) → Result (List Progression) Fault
items_from f items [] = Ok items
items_from f items (text ∷ texts) = and_then (item_or_fault f text (item_of f text)) (λ item. items_from f (items ++ item ∷ []) texts)

-- the items of a field, with commas between them
abbrev pub items_of : Field → List ℕ → Result (List Progression) Fault
items_of f word = items_from f [] (pieces 44 word)

-- a field: its items, and whether it begins with a star
pub record FieldRead : Type 0 where
  pub items : List Progression
  pub star : Bool

abbrev pub field_read : List ℕ → List Progression → FieldRead
field_read word items = record { items = items; star = begins_with_star word }

-- the first of some words as a field, and the words after it
abbrev pub field_of : Field → List (List ℕ) → Result (FieldRead × List (List ℕ)) Fault
field_of f [] = Err (no_field f)
field_of f (word ∷ more) = and_then (items_of f word) (λ items. Ok (field_read word items, more))

pub record Five : Type 0 where
  pub minute : FieldRead
  pub hour : FieldRead
  pub day_of_month : FieldRead
  pub month : FieldRead
  pub day_of_week : FieldRead

abbrev pub ended : List (List ℕ) → Five → Result Five Fault
ended [] five = Ok five
ended (word ∷ more) five = Err (sixth_field word)

-- five words as the five fields, in this order, or the first fault from the left
abbrev pub five_of : List (List ℕ) → Result Five Fault
five_of ws =
    and_then (field_of Minute ws) (λ a.
    and_then (field_of Hour a.1) (λ b.
    and_then (field_of DayOfMonth b.1) (λ c.
    and_then (field_of Month c.1) (λ d.
    and_then (field_of DayOfWeek d.1) (λ e.
    ended e.1 (record { minute = a.0; hour = b.0; day_of_month = c.0; month = d.0; day_of_week = e.0 }))))))

-- ---- the day rule

-- x is one of the numbers of a field
abbrev pub lies_in : FieldRead → ℕ → Bool
lies_in field x = in_items field.items x

-- the day of the week, from 1 for Sunday, lies in its field, where Sunday is 0, and 7 too
abbrev pub on_weekday : FieldRead → ℕ → Bool
on_weekday field day = lies_in field (day - 1) || (day == 1 && lies_in field 7)

-- the schedule whose days lie in both fields of days
abbrev pub on_both : Five → Sets
on_both five = record {
  seconds = 0 ∷ [];
  minutes = set_of units.minutes (lies_in five.minute);
  hours = set_of units.hours (lies_in five.hour);
  days_of_month = unmarked (set_of units.days_of_month (lies_in five.day_of_month));
  months = set_of units.months (lies_in five.month);
  days_of_week = set_of units.days_of_week (on_weekday five.day_of_week);
  years = whole units.years;
}

-- If one of the two fields of days begins with a star, both must match. Else one of them must: a
-- schedule for the days of the month, and one for the days of the week.
abbrev pub schedules_of : Five → List Sets
schedules_of five =
    if five.day_of_month.star || five.day_of_week.star then on_both five ∷ []
    else record (on_both five) { days_of_week = whole units.days_of_week } ∷ record (on_both five) { days_of_month = unmarked (whole units.days_of_month) } ∷ []

-- ---- nicknames

-- the nicknames, each with the expression that it stands for
abbrev pub nicknames : List (List ℕ × List ℕ)
nicknames =
    (codes "@yearly", codes "0 0 1 1 *") ∷ (codes "@annually", codes "0 0 1 1 *") ∷ (codes "@monthly", codes "0 0 1 * *") ∷ (codes "@weekly", codes "0 0 * * 0")
    ∷ (codes "@daily", codes "0 0 * * *") ∷ (codes "@midnight", codes "0 0 * * *") ∷ (codes "@hourly", codes "0 * * * *") ∷ []

abbrev pub text_in : List (List ℕ × List ℕ) → List ℕ → Option (List ℕ)
text_in [] word = None
text_in (e ∷ es) word = if bytes_eq word e.0 then Some e.1 else text_in es word

abbrev pub is_reboot : List ℕ → Bool
is_reboot word = bytes_eq word (codes "@reboot")

-- what an expression means: some schedules, of which one must match; or a run at the start of the machine alone
pub data Meaning : Type 0 where
  schedules : List Sets → Meaning
  reboot : Meaning

abbrev pub has_word : List (List ℕ × List ℕ) → List ℕ → Bool
has_word es word = list_any (λ e. str_eq_ignore_ascii_case e.0 word) es

-- the word is a nickname but for the case of its letters
abbrev pub is_capital : List ℕ → Bool
is_capital word = str_eq_ignore_ascii_case (codes "@reboot") word || has_word nicknames word

-- the fault of a word that begins with `@` and is no nickname
abbrev pub unknown : List ℕ → Fault
unknown word = if is_capital word then capital_nickname word else no_nickname word

-- the meaning of a nickname, or the fault if a word follows it
abbrev pub last_word : List (List ℕ) → Meaning → Result Meaning Fault
last_word [] meaning = Ok meaning
last_word (word ∷ more) meaning = Err (behind_nickname word)

abbrev pub meant_by : List (List ℕ) → Result Meaning Fault
meant_by ws = and_then (five_of ws) (λ five. Ok (schedules (schedules_of five)))

abbrev pub expanded : List ℕ → Option (List ℕ) → Result Meaning Fault
expanded word None = Err (unknown word)
expanded word (Some text) = meant_by (words text)

abbrev pub nickname_of : List ℕ → Result Meaning Fault
nickname_of word = if is_reboot word then Ok reboot else expanded word (text_in nicknames word)

-- ---- texts

abbrev pub begins_with_at : List ℕ → Bool
begins_with_at word = slice_index word 0 == 64

-- what words mean, or what their first fault is
abbrev pub outcome_of : List (List ℕ) → Result Meaning Fault
outcome_of [] = meant_by []
outcome_of (word ∷ more) = if begins_with_at word then and_then (nickname_of word) (last_word more) else meant_by (word ∷ more)

-- the outcome of a text, or the fault if a word follows its first line
abbrev pub on_one_line : Option (List ℕ) → Result Meaning Fault → Result Meaning Fault
on_one_line None outcome = outcome
on_one_line (Some word) outcome = Err (second_line word)

-- An expression is one line. White space at its end may have line breaks.
abbrev pub text_outcome : List ℕ → Result Meaning Fault
text_outcome text = on_one_line (further_word text) (outcome_of (words text))

-- the text means this
abbrev pub Means : List ℕ → Meaning → Type 0
Means text meaning = text_outcome text ≡ Ok meaning

-- the text is refused for this
abbrev pub Refuses : List ℕ → Fault → Type 0
Refuses text fault = text_outcome text ≡ Err fault
