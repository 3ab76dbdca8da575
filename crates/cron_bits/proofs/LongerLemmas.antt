-- How many bits are 1, in a word and in others after it.
use Rattle.std.proofs.Common.{◌≡◌, ℕ, ◌+◌, ◌<◌, Bool, true, false, cond, List, ◌∷◌, refl, sym, ap, ◌∙◌, arith, zero, suc}
use Rattle.std.specs.Prelude.{filter, length}
use Rattle.std.specs.List.{range_with_len}
use Rattle.cron_bits.specs.Words.{count_below, then_bits}
use Rattle.cron_bits.specs.Inner.RowLaws.{then_low, then_rest}

length_of : (b : Bool) (x : ℕ) (xs : List ℕ) → length (cond b (x ∷ xs) xs) ≡ cond b 1 0 + length xs
length_of true x xs = omega arith
length_of false x xs = omega arith

counted : (p : ℕ → Bool) (a n : ℕ) → length (filter p (range_with_len a (suc n))) ≡ cond (p a) 1 0 + length (filter p (range_with_len (a + 1) n))
counted p a n = length_of (p a) a (filter p (range_with_len (a + 1) n))

-- Tests that agree place by place count alike.
pub count_shift : (p r : ℕ → Bool) (a b n : ℕ) → ((k : ℕ) → k < n → p (a + k) ≡ r (b + k))
    → length (filter p (range_with_len a n)) ≡ length (filter r (range_with_len b n))
count_shift p r a b zero same = refl
count_shift p r a b (suc n) same =
    let front : a + 0 ≡ a = omega arith in
    let other_front : b + 0 ≡ b = omega arith in
    let head : p a ≡ r b = ap p (sym front) ∙ (same 0 (omega arith) ∙ ap r other_front) in
    let tail : length (filter p (range_with_len (a + 1) n)) ≡ length (filter r (range_with_len (b + 1) n)) =
    count_shift p r (a + 1) (b + 1) n (λ k l.
    let on : a + 1 + k ≡ a + (k + 1) = omega arith in
    let other_on : b + (k + 1) ≡ b + 1 + k = omega arith in
    ap p on ∙ (same (k + 1) (omega arith) ∙ ap r other_on)) in
    counted p a n ∙ (rw (head, tail) (sym (counted r b n)))

pub count_split : (p : ℕ → Bool) (a m n : ℕ) → length (filter p (range_with_len a (m + n)))
    ≡ length (filter p (range_with_len a m)) + length (filter p (range_with_len (a + m) n))
count_split p a zero n =
    let front : a + 0 ≡ a = omega arith in
    let none : 0 + n ≡ n = omega arith in
    rw (front, none) (omega arith)
count_split p a (suc m) n =
    let more : suc m + n ≡ suc (m + n) = omega arith in
    let on : a + 1 + m ≡ a + suc m = omega arith in
    ap (λ (i : ℕ). length (filter p (range_with_len a i))) more
    ∙ (counted p a (m + n) ∙ (rw (counted p a m, count_split p (a + 1) m n, on) (omega arith)))

-- The first bits are counted by one test, and those after them by another.
count_both : (p low rest : ℕ → Bool) (first size : ℕ) → ((k : ℕ) → k < first → p k ≡ low k) → ((k : ℕ) → p (first + k) ≡ rest k)
    → count_below p (first + size) ≡ count_below low first + count_below rest size
unfolding count_below
count_both p low rest first size before after =
    let none : (k : ℕ) → 0 + k ≡ k = λ k. omega arith in
    let left : length (filter p (range_with_len 0 first)) ≡ length (filter low (range_with_len 0 first)) =
    count_shift p low 0 0 first (λ k l. ap p (none k) ∙ (before k l ∙ ap low (sym (none k)))) in
    let right : length (filter p (range_with_len (0 + first) size)) ≡ length (filter rest (range_with_len 0 size)) =
    count_shift p rest (0 + first) 0 size (λ k l. ap (λ (i : ℕ). p (i + k)) (none first) ∙ (after k ∙ ap rest (sym (none k)))) in
    count_split p 0 first size ∙ rw (left, right) refl

pub then_count : (low rest : ℕ → Bool) (size : ℕ) → count_below (then_bits low rest) (64 + size) ≡ count_below low 64 + count_below rest size
then_count low rest size =
    count_both (then_bits low rest) low rest 64 size (then_low low rest) (λ k. let turned : 64 + k ≡ k + 64 = omega arith in
    ap (then_bits low rest) turned ∙ then_rest low rest k)
