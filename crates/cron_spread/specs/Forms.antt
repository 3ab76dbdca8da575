-- Items whose number a name decides.
use Rattle.std.specs.Prelude.{ℕ, ◌+◌, ◌-◌, ◌*◌, ◌==◌, ◌&&◌, nat_le, nat_lt, not, Bool, List, [], ◌∷◌, Option, Some, None, length, take, drop, if◌then◌else◌}
use Rattle.std.specs.Char.{is_ascii_digit}
use Rattle.std.specs.List.{prefix_len}
use Rattle.cron_crontab.specs.Fields.{greatest, least}
use Rattle.cron_crontab.specs.declared.field.Field.{Field}
use Rattle.cron_crontab.specs.declared.field.Field.TheVariants.{Minute, Hour, DayOfMonth, Month, DayOfWeek}
use Rattle.cron_spread.specs.declared.forms.Form.{Form}

-- the greatest number that `H` alone stands for: each month has a day 28, and Sunday is 0
abbrev pub most : Field → ℕ
most Minute = 59
most Hour = 23
most DayOfMonth = 28
most Month = 12
most DayOfWeek = 6

-- the first place of a byte, or the length if there is none
abbrev pub position : ℕ → List ℕ → ℕ
position sign text = prefix_len (λ c. not (c == sign)) text

-- the bytes before the first place of a byte, and those behind it
abbrev pub cut : ℕ → List ℕ → Option (List ℕ × List ℕ)
cut sign text = if nat_lt (position sign text) (length text) then Some (take (position sign text) text, drop (position sign text + 1) text) else None

-- the number that one or two digits are
abbrev pub number_in : List ℕ → Option ℕ
number_in [] = None
number_in (c ∷ []) = if is_ascii_digit c then Some (c - 48) else None
number_in (c ∷ d ∷ []) = if is_ascii_digit c && is_ascii_digit d then Some ((c - 48) * 10 + (d - 48)) else None
number_in (c ∷ d ∷ e ∷ cs) = None

-- a range of a field, if the numbers are some of the field's and in order
abbrev pub range_by : Field → Option ℕ → Option ℕ → Option (ℕ × ℕ)
range_by f (Some a) (Some b) = if nat_le (least f) a && (nat_le a b && nat_le b (greatest f)) then Some (a, b) else None
range_by f _ _ = None

abbrev pub range_of_parts : Field → Option (List ℕ × List ℕ) → Option (ℕ × ℕ)
range_of_parts f None = None
range_of_parts f (Some parts) = range_by f (number_in parts.0) (number_in parts.1)

-- two numbers with this sign between them
abbrev pub range_of : Field → ℕ → List ℕ → Option (ℕ × ℕ)
range_of f sign text = range_of_parts f (cut sign text)

-- a range in brackets, behind which nothing follows
abbrev pub bracketed : Field → Option (List ℕ × List ℕ) → Option (ℕ × ℕ)
bracketed f None = None
bracketed f (Some (range, [])) = range_of f 45 range
bracketed f (Some (range, (c ∷ cs))) = None

-- the range of `H` and of `H(0-29)`
abbrev pub hashed : Field → List ℕ → Option (ℕ × ℕ)
hashed f [] = None
hashed f (c ∷ []) = if c == 72 then Some (least f, most f) else None
hashed f (c ∷ d ∷ cs) = if (c == 72) && (d == 40) then bracketed f (cut 41 cs) else None

-- a range without a step
abbrev pub alone : Option (ℕ × ℕ) → Option Form
alone None = None
alone (Some r) = Some (record { first = r.0; last = r.1; step = None })

-- a range with a step, if the range has room for the step
abbrev pub stepped : Option (ℕ × ℕ) → Option ℕ → Option Form
stepped (Some r) (Some step) = if nat_lt 0 step && nat_lt step (r.1 - r.0 + 2) then Some (record { first = r.0; last = r.1; step = Some step }) else None
stepped _ _ = None

abbrev pub either : {A : Type 0} → Option A → Option A → Option A
either (Some a) other = Some a
either None other = other

abbrev pub form_by : Field → List ℕ → Option (List ℕ × List ℕ) → Option Form
form_by f item None = either (alone (hashed f item)) (alone (range_of f 126 item))
form_by f item (Some parts) = stepped (hashed f parts.0) (number_in parts.1)

-- the form of an item: `H`, `H(0-29)` and `0~29`, and `H/15` and `H(0-29)/10`
unfoldable pub form_of : Field → List ℕ → Option Form
form_of f item = form_by f item (cut 47 item)
