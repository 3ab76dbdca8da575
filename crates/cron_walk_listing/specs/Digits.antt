-- Digits within a text.
use Rattle.std.specs.Prelude.{ℕ, ◌+◌, ◌/◌, ◌%◌, List, slice_set}

-- the text with the last two digits of a number in place of the two bytes from the place `at` on
unfoldable pub with_two_digits : List ℕ → ℕ → ℕ → List ℕ
with_two_digits text at n = slice_set (slice_set text at (48 + n / 10 % 10)) (at + 1) (48 + n % 10)
