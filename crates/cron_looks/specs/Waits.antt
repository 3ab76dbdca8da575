-- How long it is from one instant to another, in words.
use Rattle.std.specs.Prelude.{◌++◌, ◌/◌, ◌%◌, ◌==◌, ℕ, ℤ, pos, List, [], ◌∷◌, codes, int_lt, nat_lt, unsigned_abs, if◌then◌else◌}
use Rattle.std.specs.Fmt.{decimal}

-- a number and its unit
abbrev pub part : ℕ → ℕ → List ℕ
part n unit = decimal n ++ unit ∷ []

-- a space, a number and its unit; nothing for 0
abbrev pub rest_part : ℕ → ℕ → List ℕ
rest_part n unit = if n == 0 then [] else 32 ∷ part n unit

-- a number of seconds in its two greatest units, of days, hours, minutes and seconds: `30s`,
-- `5m 30s`, `13h 5m`, `3d 4h`
abbrev pub span : ℕ → List ℕ
span n =
    if nat_lt n 60 then part n 115
    else if nat_lt n 3_600 then part (n / 60) 109 ++ rest_part (n % 60) 115
    else if nat_lt n 86_400 then part (n / 3_600) 104 ++ rest_part (n / 60 % 60) 109
    else part (n / 86_400) 100 ++ rest_part (n / 3_600 % 24) 104

-- how far an instant lies ahead, in seconds; `ago` if it lies behind
abbrev pub wait_text : ℤ → List ℕ
wait_text n =
    if int_lt n (pos 0) then span (unsigned_abs n) ++ codes " ago"
    else if unsigned_abs n == 0 then codes "now"
    else codes "in " ++ span (unsigned_abs n)
