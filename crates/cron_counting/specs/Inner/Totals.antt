-- Sums over the numbers below one.
use Rattle.std.specs.Prelude.{ℕ, zero, suc, ◌+◌, Bool, if◌then◌else◌}

-- what a function gives at each number below n, added up
unfoldable pub total : (ℕ → ℕ) → ℕ → ℕ
total f zero = 0
total f (suc n) = total f n + f n

-- a number where a test is true, and else 0
abbrev pub only_if : Bool → ℕ → ℕ
only_if test n = if test then n else 0

-- 1 where a test is true, and else 0
abbrev pub ones : Bool → ℕ
ones test = only_if test 1
