-- Numbers that digits spell.
use Rattle.std.specs.Prelude.{◌≡◌, ◌⊎◌, ◌<◌, ◌≤◌, ◌+◌, ◌/◌, ◌%◌, ℕ, List, slice_index}

-- the byte is the digit of this number
abbrev pub IsDigit : ℕ → ℕ → Type 0
IsDigit byte n = (n < 10) × (byte ≡ 48 + n)

abbrev pub IsNoDigit : ℕ → Type 0
IsNoDigit byte = (byte < 48) ⊎ (57 < byte)

-- the two bytes at the index `at` are the digits of n, which is below 100
pub record Spells (text : List ℕ) (at n : ℕ) : Type 0 where
  pub small : n < 100
  pub tens : slice_index text at ≡ 48 + n / 10
  pub ones : slice_index text (at + 1) ≡ 48 + n % 10

-- the first four bytes are the digits of n, a year from 1970 to 2100
pub record IsYearAt (text : List ℕ) (n : ℕ) : Type 0 where
  pub from : 1970 ≤ n
  pub to : n ≤ 2100
  pub century : Spells text 0 (n / 100)
  pub rest : Spells text 2 (n % 100)
