-- One more of a list that is joined, and where days stand.
use Rattle.std.proofs.Common.{◌≡◌, ℕ, zero, suc, ◌+◌, ◌-◌, ◌≤◌, List, ◌++◌, sym, ap, ◌∙◌, append_assoc, append-nil, arith}
use Rattle.std.specs.List.{flat_map, range_with_len}
use Rattle.cron_calendar.specs.Grids.{from_to}

flat_map_more : (f : ℕ → List ℕ) (n a m k : ℕ) → m ≡ n + 1 → k ≡ a + n → flat_map f (range_with_len a m) ≡ flat_map f (range_with_len a n) ++ f k
flat_map_more f zero a m k e g =
    let one : m ≡ 1 = omega arith in
    let at : k ≡ a = omega arith in
    rw (one, at) (append-nil (f a))
flat_map_more f (suc n) a m k e g =
    let one : m ≡ suc (suc n) = omega arith in
    rw one (ap (λ l. f a ++ l) (flat_map_more f n (a + 1) (suc n) k (omega arith) (omega arith))
    ∙ sym (append_assoc (f a) (flat_map f (range_with_len (a + 1) n)) (f k)))

pub from_to-more : (f : ℕ → List ℕ) (first i : ℕ) (base old new text : List ℕ) → first ≤ i → old ≡ base ++ from_to f first i → text ≡ f i → new ≡ old ++ text
    → new ≡ base ++ from_to f first (i + 1)
from_to-more f first i base old new text low before here is =
    let more = flat_map_more f (i - first) first (i + 1 - first) i (omega arith) (omega arith) in
    is ∙ (ap (λ l. l ++ text) before ∙ (append_assoc base (from_to f first i) text
    ∙ ap (λ l. base ++ l) (ap (λ l. from_to f first i ++ l) here ∙ sym more)))

pub from_to-none : (f : ℕ → List ℕ) (first i : ℕ) (base old : List ℕ) → i ≡ first → old ≡ base → old ≡ base ++ from_to f first i
from_to-none f first i base old e g =
    let none : i - first ≡ 0 = omega arith in
    rw none (g ∙ sym (append-nil base))

pub from_to-end : (f : ℕ → List ℕ) (first i end : ℕ) (base old : List ℕ) → i ≡ end → old ≡ base ++ from_to f first i → old ≡ base ++ from_to f first end
from_to-end f first i end base old e g = g ∙ ap (λ n. base ++ from_to f first n) e
