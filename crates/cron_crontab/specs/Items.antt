-- Items of a field: how each is written, and which numbers lie in it. A text that is none is refused for a reason.
use Rattle.std.specs.Prelude.{ℕ, ◌==◌, ◌&&◌, Bool, true, false, nat_le, nat_lt, List, [], ◌∷◌, Result, Ok, Err, Option, Some, None, codes, length, drop, slice_index, if◌then◌else◌}
use Rattle.std.specs.Char.{is_ascii_alphanumeric, is_ascii_digit}
use Rattle.std.specs.List.{list_all, list_any, prefix_len, slice_split, take_while}
use Rattle.std.specs.Str.Parse.{digits_value}
use Rattle.cron_units.specs.Steps.{Progression, in_steps}
use Rattle.cron_units.specs.Units.{named_in}
use Rattle.cron_crontab.specs.Fields.{least, greatest, names}
use Rattle.cron_crontab.specs.Refusals.{Reason, missing, no_number, long_number, outside, ignored, lone_step, no_step, zero_step}
use Rattle.cron_crontab.specs.declared.field.Field.{Field}

-- the next step of a reading, or the error of the step before it
abbrev pub and_then : {A B E : Type 0} → Result A E → (A → Result B E) → Result B E
and_then (Ok a) next = next a
and_then (Err e) next = Err e

-- the pieces of a text between the bytes that are `mark`
abbrev pub pieces : ℕ → List ℕ → List (List ℕ)
pieces mark text = slice_split (λ b. b == mark) text

-- ---- numbers

-- the letters and digits at the front of a text; `behind` is the rest of the text after them
abbrev pub front : List ℕ → List ℕ
front text = take_while is_ascii_alphanumeric text

abbrev pub behind : List ℕ → List ℕ
behind text = drop (prefix_len is_ascii_alphanumeric text) text

-- The number that a text of at most nine digits spells; more digits are refused. If the text has
-- none, or other bytes too, the result is `other`.
abbrev pub spelt : List ℕ → Result ℕ Reason → Result ℕ Reason
spelt text other =
    if nat_lt 0 (length text) && list_all is_ascii_digit text then (if nat_lt 9 (length text) then Err long_number else Ok (digits_value 10 text)) else other

-- the number that a name stands for, or the reason if there is none
abbrev pub named : Option ℕ → Reason → Result ℕ Reason
named (Some n) reason = Ok n
named None reason = Err reason

abbrev pub bounded : Field → ℕ → Result ℕ Reason
bounded f n = if nat_le (least f) n && nat_le n (greatest f) then Ok n else Err (outside n)

-- n, or the fault of a text that goes on after the letters and digits at its front
abbrev pub alone : List ℕ → ℕ → Result ℕ Reason
alone text n = if length (behind text) == 0 then Ok n else Err (ignored (front text))

-- A number of the field: digits, or a name of three letters in any case, within the bounds.
abbrev pub number_of : Field → List ℕ → Result ℕ Reason
number_of f text =
    if length text == 0 then Err missing
    else and_then (spelt (front text) (named (named_in (names f) (front text)) (no_number text))) (λ n. and_then (bounded f n) (alone text))

abbrev pub positive : ℕ → Result ℕ Reason
positive n = if n == 0 then Err zero_step else Ok n

-- A step: digits that spell another number than 0.
abbrev pub step_of : List ℕ → Result ℕ Reason
step_of text =
    if length text == 0 then Err missing else and_then (spelt (front text) (Err (no_step text))) (λ n. and_then (positive n) (alone text))

-- ---- items

-- the part of an item before its step: one number, or all from one to another
pub data Base : Type 0 where
  single : ℕ → Base
  range : ℕ → ℕ → Base

-- a star alone is all numbers of the field
abbrev pub star_of : Field → List ℕ → Result Base Reason
star_of f text = if length text == 1 then Ok (range (least f) (greatest f)) else Err (ignored (codes "*"))

-- what was found, or the fault if more pieces follow `text`
abbrev pub last_of : {A : Type 0} → List ℕ → List (List ℕ) → A → Result A Reason
last_of text [] found = Ok found
last_of text (more ∷ rest) found = Err (ignored text)

-- one number, or two with a dash between them
abbrev pub between : Field → List (List ℕ) → Result Base Reason
between f [] = Err missing
between f (first ∷ []) = and_then (number_of f first) (λ n. Ok (single n))
between f (first ∷ last ∷ more) = and_then (number_of f first) (λ n. and_then (number_of f last) (λ m. last_of last more (range n m)))

abbrev pub begins_with_star : List ℕ → Bool
begins_with_star text = slice_index text 0 == 42

abbrev pub base_of : Field → List ℕ → Result Base Reason
base_of f text = if begins_with_star text then star_of f text else between f (pieces 45 text)

abbrev pub by_step : Base → ℕ → Progression
by_step (single n) s = record { first = n; last = n; every = s }
by_step (range n m) s = record { first = n; last = m; every = s }

abbrev pub is_lone : Base → Bool
is_lone (single n) = true
is_lone (range n m) = false

-- a base with its step, if there is one; only a star or a range may have one
abbrev pub stepped : List (List ℕ) → Base → Result Progression Reason
stepped [] base = Ok (by_step base 1)
stepped (step ∷ more) base = if is_lone base then Err lone_step else and_then (step_of step) (λ s. last_of step more (by_step base s))

-- a base, and perhaps a step after a slash
abbrev pub cut_item : Field → List (List ℕ) → Result Progression Reason
cut_item f [] = Err missing
cut_item f (base ∷ steps) = and_then (base_of f base) (stepped steps)

-- the numbers of an item, as a first one, a last one and the step between them; none where the first is above the last
abbrev pub item_of : Field → List ℕ → Result Progression Reason
item_of f text = cut_item f (pieces 47 text)

-- a number lies in one of these items
abbrev pub in_items : List Progression → ℕ → Bool
in_items items x = list_any (λ item. in_steps item x) items
