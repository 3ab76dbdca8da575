-- Numbers as far as their digits are read. These are words of the reader's inner functions; no public contract cites
-- them.
use Rattle.std.specs.Prelude.{◌≡◌, ◌<◌, ◌≤◌, ℕ, nat_lt, if◌then◌else◌}
use Rattle.cron_text.specs.Tokens.{Symbol, number, foreign}

-- `value` is n if 32 bits hold n, else some number that they don't hold
pub record IsCapped (n value : ℕ) : Type 0 where
  pub within : value < 42949672960
  pub same : n < 4294967296 → value ≡ n
  pub past : 4294967296 ≤ n → 4294967296 ≤ value

-- what the grammar sees in digits that spell this number
abbrev pub number_symbol : ℕ → Symbol
number_symbol n = if nat_lt n 4294967296 then number n else foreign
