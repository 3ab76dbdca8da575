-- Spans that are no duration.
use Rattle.std.specs.Prelude.{◌≤◌, ◌^◌, ℕ, Option, Some, None, ⊤}

-- it is no span, or one of 2^63 nanoseconds at least
abbrev pub IsTooLong : Option ℕ → Type 0
IsTooLong None = ⊤
IsTooLong (Some n) = 2 ^ 63 ≤ n
