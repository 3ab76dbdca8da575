-- How many numbers are less than a bound.
use Rattle.std.specs.Prelude.{ℕ, ℤ, pos, ◌+ℤ◌, ◌-ℤ◌, int_lt, List}
use Rattle.std.specs.List.{count_by}

abbrev pub below : ℤ → List ℤ → ℕ
below bound ts = count_by (λ t. int_lt t bound) ts

-- a fire that begins before this second has ended at s
abbrev pub before : ℕ → ℤ → ℤ
before length s = (s -ℤ pos length) +ℤ pos 1
