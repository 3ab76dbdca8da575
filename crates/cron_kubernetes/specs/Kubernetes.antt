-- What the schedule of a CronJob means: one schedule, or two of which one suffices, or a time that passes between fires.
use Rattle.std.specs.Prelude.{◌≡◌, ◌||◌, ◌==◌, ◌-◌, ◌++◌, ℕ, Bool, List, [], ◌∷◌, Result, Ok, Err, Option, Some, None, codes, drop, filter, map, nat_eq, slice_index, if◌then◌else◌}
use Rattle.std.specs.List.{list_any, starts_with}
use Rattle.cron_units.specs.Sets.{Sets}
use Rattle.cron_units.specs.Units.{set_of, unmarked, whole}
use Rattle.cron_units.specs.Units as units
use Rattle.cron_crontab.specs.Items.{and_then, pieces}
use Rattle.cron_crontab.specs.Crontab as crontab
use Rattle.cron_crontab.specs.Crontab.{FieldRead, Five, begins_with_at, is_filled, lies_in, nicknames, text_in, words}
use Rattle.cron_kubernetes.specs.Refusals.{Reason, Fault, refused, no_field, sixth_field, zone, no_descriptor, no_duration}
use Rattle.cron_kubernetes.specs.Items.{Item, item_of}
use Rattle.cron_kubernetes.specs.Durations.{is_duration}
use Rattle.cron_crontab.specs.declared.field.Field.{Field}
use Rattle.cron_crontab.specs.declared.field.Field.TheVariants.{Minute, Hour, DayOfMonth, Month, DayOfWeek}

-- ---- fields

-- what was read of a text, or the fault of that text in its field
abbrev pub item_or_fault : Field → List ℕ → Result Item Reason → Result Item Fault
item_or_fault f text (Ok item) = Ok item
item_or_fault f text (Err reason) = Err (refused f text reason)

-- the items of a field, after those already read; the first text that is no item is refused
abbrev pub items_from : Field → List Item → List (List ℕ) → Result (List Item) Fault
items_from f items [] = Ok items
items_from f items (text ∷ texts) = and_then (item_or_fault f text (item_of f text)) (λ item. items_from f (items ++ item ∷ []) texts)

-- the items of a field, with commas between them; empty ones are left out
abbrev pub items_of : Field → List ℕ → Result (List Item) Fault
items_of f word = items_from f [] (filter is_filled (pieces 44 word))

-- a field has a star if one of its items is one
abbrev pub field_read : List Item → FieldRead
field_read items = record { items = map (λ item. item.numbers) items; star = list_any (λ item. item.star) items }

-- the first of some words as a field, and the words after it
abbrev pub field_of : Field → List (List ℕ) → Result (FieldRead × List (List ℕ)) Fault
field_of f [] = Err (no_field f)
field_of f (word ∷ more) = and_then (items_of f word) (λ items. Ok (field_read items, more))

abbrev pub ended : List (List ℕ) → Five → Result Five Fault
ended [] five = Ok five
ended (word ∷ more) five = Err (sixth_field word)

-- five words as the five fields, in this order, or the first fault from the left
abbrev pub five_of : List (List ℕ) → Result Five Fault
five_of ws =
    and_then (field_of Minute ws) (λ a.
    and_then (field_of Hour a.1) (λ b.
    and_then (field_of DayOfMonth b.1) (λ c.
    and_then (field_of Month c.1) (λ d.
    and_then (field_of DayOfWeek d.1) (λ e.
    ended e.1 (record { minute = a.0; hour = b.0; day_of_month = c.0; month = d.0; day_of_week = e.0 }))))))

-- ---- the day rule

-- the schedule whose days lie in both fields of days; a day of the week counts from 1 for Sunday, and its field from 0
abbrev pub on_both : Five → Sets
on_both five = record (crontab.on_both five) { days_of_week = set_of units.days_of_week (λ day. lies_in five.day_of_week (day - 1)) }

-- If one of the two fields of days has a star, both must match. Else one of them must: a schedule
-- for the days of the month, and one for the days of the week.
abbrev pub schedules_of : Five → List Sets
schedules_of five =
    if five.day_of_month.star || five.day_of_week.star then on_both five ∷ []
    else record (on_both five) { days_of_week = whole units.days_of_week } ∷ record (on_both five) { days_of_month = unmarked (whole units.days_of_month) } ∷ []

-- ---- texts

-- some schedules, of which one must match; or a duration, after which the job runs again
pub data Meaning : Type 0 where
  schedules : List Sets → Meaning
  every : List ℕ → Meaning

abbrev pub meant_by : List (List ℕ) → Result Meaning Fault
meant_by ws = and_then (five_of ws) (λ five. Ok (schedules (schedules_of five)))

abbrev pub begins_with : List ℕ → List ℕ → Bool
begins_with front text = starts_with nat_eq text front

abbrev pub begins_with_zone : List ℕ → Bool
begins_with_zone word = begins_with (codes "TZ=") word || begins_with (codes "CRON_TZ=") word

-- the meaning of words, of which the first must not be a zone
abbrev pub fields_of : List (List ℕ) → Result Meaning Fault
fields_of [] = meant_by []
fields_of (word ∷ more) = if begins_with_zone word then Err (zone word) else meant_by (word ∷ more)

abbrev pub every_of : List ℕ → Result Meaning Fault
every_of text = if is_duration text then Ok (every text) else Err (no_duration text)

-- a nickname as crontabs have it, in small letters with nothing around it, or `@every` with a space and a duration
abbrev pub descriptor_of : List ℕ → Option (List ℕ) → Result Meaning Fault
descriptor_of text (Some fields) = meant_by (words fields)
descriptor_of text None = if begins_with (codes "@every ") text then every_of (drop 7 text) else Err (no_descriptor text)

-- what a text means, or what its first fault is
abbrev pub text_outcome : List ℕ → Result Meaning Fault
text_outcome text = if begins_with_at text then descriptor_of text (text_in nicknames text) else fields_of (words text)

-- the text means this
abbrev pub Means : List ℕ → Meaning → Type 0
Means text meaning = text_outcome text ≡ Ok meaning

-- the text is refused for this
abbrev pub Refuses : List ℕ → Fault → Type 0
Refuses text fault = text_outcome text ≡ Err fault
