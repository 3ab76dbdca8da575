-- Times of day by the clock.
use Rattle.std.specs.Prelude.{ℕ, ◌==◌, List, [], ◌∷◌, ◌++◌, nat_lt, if◌then◌else◌}
use Rattle.std.specs.Fmt.{decimal}

-- a number with two digits at least, as `05`
abbrev pub two_digits : ℕ → List ℕ
two_digits n = if nat_lt n 10 then 48 ∷ decimal n else decimal n

-- a time of day: `09:30`, or `09:30:05`
abbrev pub clock_text : ℕ → ℕ → ℕ → List ℕ
clock_text h m s = two_digits h ++ 58 ∷ (two_digits m ++ (if s == 0 then [] else 58 ∷ two_digits s))
