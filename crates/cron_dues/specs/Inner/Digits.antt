-- Places in the text of a due fire.
use Rattle.std.specs.Prelude.{◌≡◌, ◌⊎◌, ℕ, ◌+◌, ◌-◌, ◌*◌, List, slice_index}

-- the number that two digits at a place spell; of other bytes it is some number
abbrev pub number_at : List ℕ → ℕ → ℕ
number_at text at = (slice_index text at - 48) * 10 + (slice_index text (at + 1) - 48)

-- the text of an offset, with or without seconds, can end at `end` in a text of `len` bytes. The
-- text ends there too, or a nominal time follows, with or without its date
abbrev pub CanEnd : ℕ → ℕ → Type 0
CanEnd len end = ((end ≡ 26) ⊎ (end ≡ 29)) × ((len ≡ end) ⊎ ((len ≡ end + 13) ⊎ (len ≡ end + 24)))
