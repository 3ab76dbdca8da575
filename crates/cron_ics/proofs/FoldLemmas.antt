-- A line that is folded byte by byte.
use Rattle.std.proofs.Common.{◌≡◌, ℕ, suc, ◌+◌, ◌<◌, ◌≤◌, List, ◌++◌, length, get_or, drop, sym, ap, ◌∙◌, append_assoc, drop-cons, arith}
use lib.ListN.{drop_of_length-le}
use Rattle.cron_ics.specs.Folding.{folded_byte, folded_from, line_end, next_column}

pub fold_step : (page new base : List ℕ) (k next i : ℕ) (line : List ℕ) → i < length line → new ≡ page ++ folded_byte k (get_or line i 0)
    → next ≡ next_column k (get_or line i 0) → page ++ folded_from k (drop i line) ≡ base → new ++ folded_from next (drop (i + 1) line) ≡ base
fold_step page new base k next i line within is column was =
    let on : i + 1 ≡ suc i = omega arith in
    let b = get_or line i 0 in
    rw (on, is, column) (append_assoc page (folded_byte k b) (folded_from (next_column k b) (drop (suc i) line))
    ∙ ap (λ l. page ++ folded_from k l) (sym (drop-cons line i 0 within)) ∙ was)

pub fold_end : (page new base : List ℕ) (k i : ℕ) (line : List ℕ) → length line ≤ i → new ≡ page ++ line_end
    → page ++ folded_from k (drop i line) ≡ base → new ≡ base
fold_end page new base k i line past is was =
    is ∙ (ap (λ l. page ++ folded_from k l) (sym (drop_of_length-le line {i = i} past)) ∙ was)
