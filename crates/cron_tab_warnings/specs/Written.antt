-- The fields of a crontab's line as they are written. A field has items with commas between, and an
-- item is a `Progression`: a first number, a last one and a step.
use Rattle.std.specs.Prelude.{ℕ, zero, suc, ◌+◌, ◌-◌, ◌%◌, ◌==◌, ◌&&◌, Bool, true, false, not, nat_lt, nat_le, List, [], ◌∷◌, Result, Ok, Err}
use Rattle.std.specs.List.{list_all, list_any}
use Rattle.cron_units.specs.Steps.{Progression, in_steps}
use Rattle.cron_crontab.specs.Crontab.{begins_with_at, words}
use Rattle.cron_crontab.specs.Fields.{least, greatest}
use Rattle.cron_crontab.specs.Items.{item_of, pieces}
use Rattle.cron_crontab.specs.Refusals.{Reason}
use Rattle.cron_crontab.specs.declared.field.Field.{Field}
use Rattle.cron_crontab.specs.declared.field.Field.TheVariants.{Minute, Hour, DayOfMonth, Month, DayOfWeek}

-- ---- words

-- the word at a place, counted from 0; empty after the last word
abbrev pub word_in : List (List ℕ) → ℕ → List ℕ
word_in [] n = []
word_in (word ∷ more) zero = word
word_in (word ∷ more) (suc n) = word_in more n

abbrev pub word_at : List ℕ → ℕ → List ℕ
word_at text n = word_in (words text) n

abbrev pub place : Field → ℕ
place Minute = 0
place Hour = 1
place DayOfMonth = 2
place Month = 3
place DayOfWeek = 4

abbrev pub field_word : List ℕ → Field → List ℕ
field_word text f = word_at text (place f)

-- whether the text has fields: a nickname, which begins with `@`, has none
abbrev pub has_fields : List ℕ → Bool
has_fields text = not (begins_with_at (word_at text 0))

-- ---- items

-- whether an item can be read, and its numbers pass a test
abbrev pub passed : (Progression → Bool) → Result Progression Reason → Bool
passed test (Ok p) = test p
passed test (Err reason) = false

-- whether some item of a field can be read, and its numbers pass a test
abbrev pub has_item : (Progression → Bool) → Field → List ℕ → Bool
has_item test f word = list_any (λ item. passed test (item_of f item)) (pieces 44 word)

-- whether each item of a word can be read as one of the field's
abbrev pub is_field : Field → List ℕ → Bool
is_field f word = list_all (λ item. passed (λ p. true) (item_of f item)) (pieces 44 word)

-- whether an item of the field has the number x
abbrev pub names : Field → List ℕ → ℕ → Bool
names f word x = has_item (λ p. in_steps p x) f word

-- whether the field has each of its first so many numbers, from its least one on
abbrev pub names_first : Field → List ℕ → ℕ → Bool
names_first f word zero = true
names_first f word (suc n) = names_first f word n && names f word (least f + n)

-- how many different numbers a field has; in days of the week 0 and 7 are the same number
abbrev pub size : Field → ℕ
size Minute = 60
size Hour = 24
size DayOfMonth = 31
size Month = 12
size DayOfWeek = 7

abbrev pub names_all : Field → List ℕ → Bool
names_all f word = names_first f word (size f)

-- ---- numbers of an item

-- the first number is greater than the last
abbrev pub is_backward : Progression → Bool
is_backward p = nat_lt p.last p.first

-- whether the step is longer than the item's whole range, so that only the first number is left
abbrev pub is_past_end : Progression → Bool
is_past_end p = nat_lt 1 p.every && (nat_le p.first p.last && nat_lt (p.last - p.first) p.every)

-- Whether a step divides a field, so that it goes on evenly from one hour, day, year or week to the
-- next. Months have 28 to 31 days, which only 1 divides.
abbrev pub divides_round : Field → ℕ → Bool
divides_round DayOfMonth step = step == 1
divides_round f step = size f % step == 0

-- whether a range has all numbers of a field, as 0-6, 1-7 and 0-7 in days of the week
abbrev pub is_whole : Field → Progression → Bool
is_whole f p = nat_le (size f) (p.last - p.first + 1)

-- whether an item is the whole field with a step that doesn't divide it, so that the field begins
-- anew within a step
abbrev pub is_uneven : Field → Progression → Bool
is_uneven f p = is_whole f p && (nat_le p.every (p.last - p.first) && not (divides_round f p.every))
