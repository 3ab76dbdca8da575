-- Items of a field: how Quartz writes each, and which numbers lie in it. A text that is none is refused for a reason.
use Rattle.std.specs.Prelude.{ℕ, ◌==◌, ◌&&◌, ◌+◌, ◌-◌, ◌%◌, ◌++◌, Bool, true, false, not, nat_le, nat_lt, List, [], ◌∷◌, Result, Ok, Err, Option, Some, None, codes, length, if◌then◌else◌}
use Rattle.std.specs.Char.{is_ascii_digit}
use Rattle.std.specs.List.{list_all, list_any}
use Rattle.std.specs.Str.{bytes_eq}
use Rattle.std.specs.Str.Parse.{digits_value}
use Rattle.cron_units.specs.Steps.{Progression}
use Rattle.cron_units.specs.Units.{TimeUnit, ordinal_of, set_of}
use Rattle.cron_crontab.specs.Items.{and_then, pieces}
use Rattle.cron_quartz.specs.Refusals.{Reason, missing, no_number, long_number, outside, outside_step, ignored, named_step, mixed, backward, Fault, refused}

-- ---- numbers

-- the number that digits spell, of which there are nine at most
abbrev pub value_of : List ℕ → Result ℕ Reason
value_of text =
    if length text == 0 then Err missing
    else if not (list_all is_ascii_digit text) then Err (no_number text)
    else if nat_lt 9 (length text) then Err long_number
    else Ok (digits_value 10 text)

abbrev pub bounded : ℕ → ℕ → ℕ → Result ℕ Reason
bounded low high n = if nat_le low n && nat_le n high then Ok n else Err (outside n low high)

-- the number from `low` to `high` that digits spell
abbrev pub number_in : ℕ → ℕ → List ℕ → Result ℕ Reason
number_in low high text = and_then (value_of text) (bounded low high)

-- a number of a unit, and whether it is written as a name
pub record End : Type 0 where
  pub number : ℕ
  pub named : Bool

-- the number that a name stands for; names have three letters, in any case
abbrev pub name_of : TimeUnit → List ℕ → Option ℕ
name_of u text = if length text == 3 then ordinal_of u text else None

abbrev pub named_or : Option ℕ → Result ℕ Reason → Result End Reason
named_or (Some n) digits = Ok (record { number = n; named = true })
named_or None digits = and_then digits (λ n. Ok (record { number = n; named = false }))

abbrev pub end_of : TimeUnit → List ℕ → Result End Reason
end_of u text = named_or (name_of u text) (number_in u.least u.greatest text)

-- ---- what stands before a step

-- all numbers, one, or those from one to another
pub data Base : Type 0 where
  all : Base
  one : End → Base
  range : End → End → Base

-- a range may go past the end of the unit and on from its least number, except in years
abbrev pub begins_anew : TimeUnit → Bool
begins_anew u = nat_lt u.greatest 1970

-- one end of a range is a name, and the other a number
abbrev pub are_mixed : Bool → Bool → Bool
are_mixed true false = true
are_mixed false true = true
are_mixed _ _ = false

abbrev pub range_of : TimeUnit → End → End → Result Base Reason
range_of u a b =
    if are_mixed a.named b.named then Err mixed
    else if not (begins_anew u) && nat_lt b.number a.number then Err backward
    else Ok (range a b)

-- what was found, or the fault if more pieces follow `text`
abbrev pub last_of : {A : Type 0} → List ℕ → List (List ℕ) → A → Result A Reason
last_of text [] found = Ok found
last_of text (more ∷ rest) found = Err (ignored text)

-- one number, or two with a dash between them
abbrev pub between : TimeUnit → List (List ℕ) → Result Base Reason
between u [] = Err missing
between u (first ∷ []) = and_then (end_of u first) (λ a. Ok (one a))
between u (first ∷ last ∷ more) = and_then (end_of u first) (λ a. and_then (end_of u last) (λ b. and_then (range_of u a b) (last_of last more)))

abbrev pub base_of : TimeUnit → List ℕ → Result Base Reason
base_of u text = if bytes_eq text (codes "*") then Ok all else between u (pieces 45 text)

-- ---- items

-- the numbers of a base, as a first one, a last one and the step; if the last is less, they go
-- round the end of the unit
abbrev pub plain : TimeUnit → Base → Progression
plain u all = record { first = u.least; last = u.greatest; every = 1 }
plain u (one a) = record { first = a.number; last = a.number; every = 1 }
plain u (range a b) = record { first = a.number; last = b.number; every = 1 }

-- the numbers of a base with a step; a single number goes on to the greatest of the unit
abbrev pub by_steps : TimeUnit → ℕ → Base → Progression
by_steps u s all = record { first = u.least; last = u.greatest; every = s }
by_steps u s (one a) = record { first = a.number; last = u.greatest; every = s }
by_steps u s (range a b) = record { first = a.number; last = b.number; every = s }

abbrev pub is_named : Base → Bool
is_named all = false
is_named (one a) = a.named
is_named (range a b) = a.named

abbrev pub step_within : ℕ → ℕ → Result ℕ Reason
step_within high n = if nat_lt 0 n && nat_le n high then Ok n else Err (outside_step n high)

abbrev pub step_of : TimeUnit → List ℕ → Result ℕ Reason
step_of u text = and_then (value_of text) (step_within u.greatest)

-- a base with its step; only a star, a number or a range of numbers may have one
abbrev pub stepped : TimeUnit → List ℕ → List (List ℕ) → Base → Result Progression Reason
stepped u step more base =
    if is_named base then Err named_step else and_then (step_of u step) (λ s. last_of step more (by_steps u s base))

-- the base before a step, which may be left out: `/5` is `*/5`
abbrev pub stepped_base : TimeUnit → List ℕ → Result Base Reason
stepped_base u text = if length text == 0 then Ok all else base_of u text

-- a base, and perhaps a step after a slash
abbrev pub cut_item : TimeUnit → List (List ℕ) → Result Progression Reason
cut_item u [] = Err missing
cut_item u (base ∷ []) = and_then (base_of u base) (λ b. Ok (plain u b))
cut_item u (base ∷ step ∷ more) = and_then (stepped_base u base) (stepped u step more)

abbrev pub item_of : TimeUnit → List ℕ → Result Progression Reason
item_of u text = cut_item u (pieces 47 text)

-- ---- which numbers lie in items

-- how many numbers x is after `from`, counted round the end of the unit if x is less
abbrev pub way_on : TimeUnit → ℕ → ℕ → ℕ
way_on u from x = if nat_le from x then x - from else (x - u.least) + (u.greatest + 1 - from)

-- x lies in an item: it is at most as far on from the first number as the last is, by whole steps
abbrev pub lies_in : TimeUnit → Progression → ℕ → Bool
lies_in u item x = nat_le (way_on u item.first x) (way_on u item.first item.last) && way_on u item.first x % item.every == 0

abbrev pub lies_in_one : TimeUnit → List Progression → ℕ → Bool
lies_in_one u items x = list_any (λ item. lies_in u item x) items

-- ---- fields

-- what was read of a text, or the fault of that text in its field
abbrev pub told : {A : Type 0} → TimeUnit → List ℕ → Result A Reason → Result A Fault
told u text (Ok found) = Ok found
told u text (Err reason) = Err (refused u text reason)

-- the items of a field, after those already read; the first text that is no item is refused
abbrev pub items_from : TimeUnit → List Progression → List (List ℕ) → Result (List Progression) Fault
items_from u items [] = Ok items
items_from u items (text ∷ texts) = and_then (told u text (item_of u text)) (λ item. items_from u (items ++ item ∷ []) texts)

-- the items of a field, with commas between them
abbrev pub items_of : TimeUnit → List ℕ → Result (List Progression) Fault
items_of u word = items_from u [] (pieces 44 word)

-- the numbers of a field
abbrev pub set_read : TimeUnit → List ℕ → Result (List ℕ) Fault
set_read u word = and_then (items_of u word) (λ items. Ok (set_of u (lies_in_one u items)))
