-- How the writer writes numbers, names and ranges.
use Rattle.std.specs.Prelude.{◌≡◌, ◌≤◌, ◌==◌, ℕ, true, List, [], ◌∷◌, ◌++◌, codes, length, map, nat_lt, if◌then◌else◌}
use Rattle.std.specs.Fmt.{decimal}
use Rattle.std.specs.List.{AllByRecursion, join_with_byte, list_any}
use Rattle.cron_units.specs.Units.{contains}
use Rattle.cron_oncalendar.specs.Calendars.{lies_in}
use Rattle.cron_oncalendar.specs.declared.components.Spelling.{Spelling}
use Rattle.cron_oncalendar.specs.declared.components.Spelling.TheVariants.{Digits, Names}

-- a number in decimal, with two digits or more
abbrev pub number_text : ℕ → List ℕ
number_text n = if nat_lt n 10 then 48 ∷ decimal n else decimal n

abbrev pub weekday_text : ℕ → List ℕ
weekday_text n =
    if n == 1 then codes "Mon" else if n == 2 then codes "Tue" else if n == 3 then codes "Wed" else if n == 4 then codes "Thu"
    else if n == 5 then codes "Fri" else if n == 6 then codes "Sat" else codes "Sun"

abbrev pub word_text : Spelling → ℕ → List ℕ
word_text Digits n = number_text n
word_text Names n = weekday_text n

abbrev pub range_text : Spelling → ℕ × ℕ → List ℕ
range_text w r = if r.0 == r.1 then word_text w r.0 else word_text w r.0 ++ 46 ∷ 46 ∷ word_text w r.1

abbrev pub ranges_text : Spelling → List (ℕ × ℕ) → List ℕ
ranges_text w rs = join_with_byte 44 (map (range_text w) rs)

-- a piece with the property P was appended
pub record Pushes (P : List ℕ → Type 0) (old new : List ℕ) : Type 0 where
  pub piece : List ℕ
  pub pushed : new ≡ old ++ piece
  pub is : P piece

-- the range goes from one of the numbers to one that isn't less
pub record IsRangeOf (xs : List ℕ) (r : ℕ × ℕ) : Type 0 where
  pub first : contains xs r.0 ≡ true
  pub ordered : r.0 ≤ r.1
  pub last : contains xs r.1 ≡ true

-- the ranges have these numbers and no others
pub record AreRangesOf (xs : List ℕ) (rs : List (ℕ × ℕ)) : Type 0 where
  pub each : AllByRecursion (IsRangeOf xs) rs
  pub same : (x : ℕ) → list_any (lies_in x) rs ≡ contains xs x
  pub some : rs ≡ [] → ⊥
  pub few : length rs ≤ length xs

-- the piece is the text of ranges that have these numbers and no others
pub record AreRangesText (w : Spelling) (xs piece : List ℕ) : Type 0 where
  pub ranges : List (ℕ × ℕ)
  pub are : AreRangesOf xs ranges
  pub text : piece ≡ ranges_text w ranges
