-- Names as numbers: the letters by their numbers in the alphabet, whatever their case, as digits to the base 32.
use Rattle.std.specs.Prelude.{◌≡◌, ◌+◌, ◌*◌, ◌/◌, ◌%◌, ◌^◌, ◌≤◌, ◌<◌, ℕ, Bool, ◌&&◌, ◌||◌, nat_le, List, [], ◌∷◌}

-- a letter of ASCII, small or capital
abbrev pub is_letter : ℕ → Bool
is_letter c = (nat_le 65 c && nat_le c 90) || (nat_le 97 c && nat_le c 122)

abbrev pub key_from : ℕ → List ℕ → ℕ
key_from k [] = k
key_from k (c ∷ cs) = key_from (k * 32 + c % 32) cs

-- the key of a name
abbrev pub key_of : List ℕ → ℕ
key_of name = key_from 0 name

-- `key` is the key of the name, if that has at most eleven letters, else a number that is no such
-- name's key
pub record IsKey (name : List ℕ) (key : ℕ) : Type 0 where
  pub same : key_of name < 36028797018963968 → key ≡ key_of name
  pub past : 36028797018963968 ≤ key_of name → 36028797018963968 ≤ key

-- the slot of a key, one of 32: the first five bits of its product with a number that spreads the keys of a table
abbrev pub slot_of : ℕ → ℕ → ℕ
slot_of spread key = key * spread % 2 ^ 64 / 2 ^ 59
