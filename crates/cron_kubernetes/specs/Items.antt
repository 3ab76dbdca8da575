-- Items of a field: how each is written, and which numbers lie in it. A text that is none is refused for a reason.
use Rattle.std.specs.Prelude.{ℕ, ◌==◌, ◌&&◌, ◌||◌, ◌^◌, Bool, true, false, not, nat_le, nat_lt, List, [], ◌∷◌, Result, Ok, Err, Option, Some, None, codes, length, if◌then◌else◌}
use Rattle.std.specs.Char.{is_ascii_digit}
use Rattle.std.specs.List.{list_all}
use Rattle.std.specs.Str.{bytes_eq}
use Rattle.std.specs.Str.Parse.{digits_value, starts_with_minus, without_leading_sign}
use Rattle.cron_units.specs.Steps.{Progression}
use Rattle.cron_units.specs.Units.{named_in}
use Rattle.cron_crontab.specs.Fields.{least, names}
use Rattle.cron_crontab.specs.Items.{and_then, pieces}
use Rattle.cron_kubernetes.specs.Refusals.{Reason, greatest, missing, no_number, too_large, negative, outside, backward, second_dash, second_step, zero_step}
use Rattle.cron_crontab.specs.declared.field.Field.{Field}

-- ---- numbers

abbrev pub are_digits : List ℕ → Bool
are_digits ds = nat_lt 0 (length ds) && list_all is_ascii_digit ds

-- the number that digits spell, if it is below 2^63
abbrev pub fitting : List ℕ → ℕ → Result ℕ Reason
fitting text n = if nat_lt n (2 ^ 63) then Ok n else Err (too_large text)

-- the number of a text, of which `ds` is what follows its sign
abbrev pub spelt : List ℕ → List ℕ → Result ℕ Reason
spelt text ds = if are_digits ds then and_then (fitting text (digits_value 10 ds)) (λ n. if starts_with_minus text && nat_lt 0 n then Err (negative text) else Ok n) else Err (no_number text)

-- Digits, with a sign in front or none. There may be any number of zeros first.
abbrev pub value_of : List ℕ → Result ℕ Reason
value_of text = if length text == 0 then Err missing else spelt text (without_leading_sign text)

abbrev pub bounded : Field → ℕ → Result ℕ Reason
bounded f n = if nat_le (least f) n && nat_le n (greatest f) then Ok n else Err (outside n)

-- the number that a name stands for, or else the one that the text spells
abbrev pub named_or_spelt : List ℕ → Option ℕ → Result ℕ Reason
named_or_spelt text (Some n) = Ok n
named_or_spelt text None = value_of text

-- A number of the field, or the name of one in three letters, in any case.
abbrev pub number_of : Field → List ℕ → Result ℕ Reason
number_of f text = and_then (named_or_spelt text (named_in (names f) text)) (bounded f)

-- ---- what stands before a step

-- all numbers of the field, one, or those from one to another
pub data Base : Type 0 where
  all : Base
  single : ℕ → Base
  range : ℕ → ℕ → Base

-- `*` and `?` are the same
abbrev pub is_star : List ℕ → Bool
is_star text = bytes_eq text (codes "*") || bytes_eq text (codes "?")

abbrev pub range_of : ℕ → ℕ → Result Base Reason
range_of n m = if nat_lt m n then Err (backward n m) else Ok (range n m)

-- the base of a number and the pieces after it
abbrev pub up_to : Field → ℕ → List (List ℕ) → Result Base Reason
up_to f n [] = Ok (single n)
up_to f n (last ∷ []) = and_then (number_of f last) (range_of n)
up_to f n (last ∷ more) = Err second_dash

-- What follows a star and a dash counts for nothing.
abbrev pub between : Field → List (List ℕ) → Result Base Reason
between f [] = Err missing
between f (first ∷ more) = if is_star first then Ok all else and_then (number_of f first) (λ n. up_to f n more)

abbrev pub base_of : Field → List ℕ → Result Base Reason
base_of f text = between f (pieces 45 text)

-- ---- items

-- the numbers of an item, and whether it counts as a star for the rule of days
pub record Item : Type 0 where
  pub numbers : Progression
  pub star : Bool

-- the numbers from a first to a last by steps
abbrev pub each : ℕ → ℕ → ℕ → Progression
each first last every = record { first = first; last = last; every = every }

abbrev pub plain : Field → Base → Item
plain f all = record { numbers = each (least f) (greatest f) 1; star = true }
plain f (single n) = record { numbers = each n n 1; star = false }
plain f (range n m) = record { numbers = each n m 1; star = false }

-- an item with a step: a lone number goes on to the greatest, and a star is one only with the step 1
abbrev pub by_step : Field → Base → ℕ → Item
by_step f all s = record { numbers = each (least f) (greatest f) s; star = s == 1 }
by_step f (single n) s = record { numbers = each n (greatest f) s; star = false }
by_step f (range n m) s = record { numbers = each n m s; star = false }

abbrev pub positive : ℕ → Result ℕ Reason
positive n = if n == 0 then Err zero_step else Ok n

abbrev pub step_of : List ℕ → Result ℕ Reason
step_of text = and_then (value_of text) positive

abbrev pub stepped : Field → List (List ℕ) → Base → Result Item Reason
stepped f [] base = Ok (plain f base)
stepped f (step ∷ []) base = and_then (step_of step) (λ s. Ok (by_step f base s))
stepped f (step ∷ more) base = Err second_step

-- a base, and perhaps a step after a slash
abbrev pub cut_item : Field → List (List ℕ) → Result Item Reason
cut_item f [] = Err missing
cut_item f (base ∷ steps) = and_then (base_of f base) (stepped f steps)

abbrev pub item_of : Field → List ℕ → Result Item Reason
item_of f text = cut_item f (pieces 47 text)
