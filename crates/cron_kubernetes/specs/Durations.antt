-- Durations as Go writes them: `90m`, `1h30m`, `-1.5s`.
use Rattle.std.specs.Prelude.{ℕ, ◌==◌, ◌&&◌, ◌||◌, ◌+◌, ◌*◌, ◌^◌, Bool, false, nat_lt, List, [], ◌∷◌, Option, Some, None, codes, drop, length, if◌then◌else◌}
use Rattle.std.specs.Char.{is_ascii_digit}
use Rattle.std.specs.List.{list_all, list_any, prefix_len, take_while}
use Rattle.std.specs.Str.{bytes_eq}
use Rattle.std.specs.Str.Parse.{digits_value, without_leading_sign}

-- a number, with a point in it or none, and its unit
pub record Part : Type 0 where
  pub number : List ℕ
  pub unit : List ℕ

abbrev pub part : List ℕ → List ℕ → Part
part number unit = record { number = number; unit = unit }

-- a digit or a point
abbrev pub is_numeral : ℕ → Bool
is_numeral c = is_ascii_digit c || c == 46

abbrev pub in_front : ℕ → List Part → List Part
in_front c [] = if is_numeral c then part (c ∷ []) [] ∷ [] else part [] (c ∷ []) ∷ []
in_front c (p ∷ ps) =
    if is_numeral c then part (c ∷ p.number) p.unit ∷ ps
    else if length p.number == 0 then part [] (c ∷ p.unit) ∷ ps
    else part [] (c ∷ []) ∷ p ∷ ps

-- the parts of a text: each is a run of digits and points, and the run of other bytes behind it
abbrev pub parts : List ℕ → List Part
parts [] = []
parts (c ∷ cs) = in_front c (parts cs)

-- the units with their nanoseconds; of microseconds the first letter is a `u`, the micro sign or the Greek letter
abbrev pub units : List (List ℕ × ℕ)
units =
    (codes "ns", 1) ∷ (codes "us", 1000) ∷ (194 ∷ 181 ∷ codes "s", 1000) ∷ (206 ∷ 188 ∷ codes "s", 1000) ∷ (codes "ms", 1000000) ∷ (codes "s", 1000000000)
    ∷ (codes "m", 60000000000) ∷ (codes "h", 3600000000000) ∷ []

abbrev pub unit_in : List (List ℕ × ℕ) → List ℕ → Option ℕ
unit_in [] unit = None
unit_in (e ∷ es) unit = if bytes_eq unit e.0 then Some e.1 else unit_in es unit

-- at least one digit, and at most one point: what follows the first digits and a point is digits
abbrev pub is_number : List ℕ → Bool
is_number number = list_any is_ascii_digit number && list_all is_ascii_digit (drop (prefix_len is_ascii_digit number + 1) number)

-- the number that the digits in front of the point spell
abbrev pub whole_of : List ℕ → ℕ
whole_of number = digits_value 10 (take_while is_ascii_digit number)

abbrev pub times : ℕ → Option ℕ → Option ℕ
times n None = None
times n (Some unit) = Some (n * unit)

-- the nanoseconds of a part, without those behind the point
abbrev pub span_of_part : Part → Option ℕ
span_of_part p = if is_number p.number then times (whole_of p.number) (unit_in units p.unit) else None

abbrev pub plus : Option ℕ → Option ℕ → Option ℕ
plus (Some n) (Some m) = Some (n + m)
plus _ _ = None

abbrev pub span_of : List Part → Option ℕ
span_of [] = Some 0
span_of (p ∷ ps) = plus (span_of_part p) (span_of ps)

-- it is below 2^63
abbrev pub fits : Option ℕ → Bool
fits None = false
fits (Some n) = nat_lt n (2 ^ 63)

-- one part or more, of less than 2^63 nanoseconds
abbrev pub are_parts : List ℕ → Bool
are_parts text = nat_lt 0 (length text) && fits (span_of (parts text))

-- parts, or `0`, with a sign in front or none
abbrev pub is_duration : List ℕ → Bool
is_duration text = bytes_eq (without_leading_sign text) (codes "0") || are_parts (without_leading_sign text)
