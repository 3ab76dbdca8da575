-- Cells of a month's grid, five columns wide, with a number on the right. Texts are lists of bytes.
use Rattle.std.specs.Prelude.{ℕ, ◌+◌, ◌/◌, ◌%◌, Bool, List, [], ◌∷◌, ◌++◌, Option, Some, None, codes, nat_lt, if◌then◌else◌}

-- the byte of a digit, or a space if the number n is less than `least`
abbrev pub digit_from : ℕ → ℕ → ℕ → ℕ
digit_from least n digit = if nat_lt n least then 32 else 48 + digit

-- a number below 10,000, right-aligned in four columns
abbrev pub four_columns : ℕ → List ℕ
four_columns n = digit_from 1000 n (n / 1000 % 10) ∷ digit_from 100 n (n / 100 % 10) ∷ digit_from 10 n (n / 10 % 10) ∷ (48 + n % 10) ∷ []

-- a number below 1,000, right-aligned in three columns
abbrev pub three_columns : ℕ → List ℕ
three_columns n = digit_from 100 n (n / 100 % 10) ∷ digit_from 10 n (n / 10 % 10) ∷ (48 + n % 10) ∷ []

abbrev pub blank_cell : List ℕ
blank_cell = codes "     "

-- the cell of a day of the month, blank if there is no day
abbrev pub day_cell : Option ℕ → List ℕ
day_cell None = blank_cell
day_cell (Some day) = 32 ∷ four_columns day

-- a number of tenths below 100 with one decimal place: `1.0` for 10
abbrev pub tenths : ℕ → List ℕ
tenths n = (48 + n / 10 % 10) ∷ 46 ∷ (48 + n % 10) ∷ []

-- a number of 32 bits in four columns: from 10,000 on it is rounded down, to `86k`, `1.0M`, ` 10M`
-- or `1.0G`
abbrev pub number_columns : ℕ → List ℕ
number_columns n =
    if nat_lt n 10_000 then four_columns n
    else (if nat_lt n 1_000_000 then three_columns (n / 1000) ++ codes "k"
    else (if nat_lt n 10_000_000 then tenths (n / 100_000) ++ codes "M"
    else (if nat_lt n 1_000_000_000 then three_columns (n / 1_000_000) ++ codes "M" else tenths (n / 100_000_000) ++ codes "G")))

abbrev pub number_cell : ℕ → List ℕ
number_cell n = 32 ∷ number_columns n

-- a text between the codes with which a terminal makes it green, if `colour` is true
abbrev pub coloured : Bool → List ℕ → List ℕ
coloured colour text = if colour then (27 ∷ codes "[32m") ++ (text ++ 27 ∷ codes "[0m") else text

-- the cell of a day's number of fires: a point for 0
abbrev pub fires_cell : Bool → ℕ → List ℕ
fires_cell colour n = if nat_lt 0 n then coloured colour (number_cell n) else codes "    ."

abbrev pub count_cell : Bool → Option ℕ → List ℕ
count_cell colour None = blank_cell
count_cell colour (Some n) = fires_cell colour n
