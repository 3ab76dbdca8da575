-- A place and its instant as one word: the instant counted from 93,600 seconds before 1970, times 2^30, and the place.
use Rattle.std.specs.Prelude.{◌≡◌, ◌<◌, ◌≤◌, ℕ, ◌/◌, ◌%◌, ℤ, pos, neg_ℤ, ◌-ℤ◌, nat_lt, if◌then◌else◌, Option, Some, None}
use Rattle.jiff_core.specs.Calendar.{IsBetween}

-- a word has room for the instant, as it has for the instant of each fire
abbrev pub CanBeKept : ℤ → Type 0
CanBeKept n = IsBetween (neg_ℤ (pos 93_599)) (pos 8_590_028_189) n

-- the word of a place with no instant
abbrev pub none_word : ℕ
none_word = 18_446_744_073_709_551_615

-- the instant that a word has; `None` for the word of no instant
abbrev pub instant_in : ℕ → Option ℤ
instant_in w = if nat_lt w none_word then Some (pos (w / 1_073_741_824) -ℤ pos 93_600) else None

-- the place that a word has; `None` for the word of no instant
abbrev pub place_in : ℕ → Option ℕ
place_in w = if nat_lt w none_word then Some (w % 1_073_741_824) else None

-- a word of this place: the word of no instant, or one with an instant and this place
abbrev pub HasPlace : ℕ → ℕ → Type 0
HasPlace w i = (w ≤ none_word) × (w < none_word → w % 1_073_741_824 ≡ i)
