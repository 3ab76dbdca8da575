-- A table of words whose ones stand at multiples. No public contract cites it.
use Rattle.std.specs.Prelude.{ℕ, zero, suc, ◌%◌, Bool, true, ◌&&◌, ◌||◌, cond, List, get_or, nat_eq}
use Rattle.std.specs.Int.{bit_at}

-- whether a test is true of each number below another
abbrev pub all_below : (ℕ → Bool) → ℕ → Bool
all_below p zero = true
all_below p (suc n) = p n && all_below p n

-- the binary digit at place k of the row of `every`: 1 if k is a multiple of `every`, else 0
abbrev pub multiple_digit : ℕ → ℕ → ℕ
multiple_digit every k = cond (nat_eq (k % every) 0) 1 0

-- whether row n has its ones at the multiples of n, for each n from 1 to 63
abbrev pub are_multiples : List ℕ → Bool
are_multiples rows = all_below (λ n. nat_eq n 0 || all_below (λ k. nat_eq (bit_at (get_or rows n 0) k) (multiple_digit n k)) 64) 64
