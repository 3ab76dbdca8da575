-- Sums over the numbers below one.
use Rattle.std.proofs.Common.{◌≡◌, ℕ, zero, suc, ◌+◌, ◌-◌, ◌*◌, ◌<◌, ◌≤◌, Bool, true, false, ◌⊎◌, inl, inr, refl, sym, ◌∙◌, arith}
use Rattle.cron_counting.specs.Inner.Totals.{ones, only_if, total}

pub total-none : (f : ℕ → ℕ) → total f 0 ≡ 0
unfolding total
total-none f = refl

pub total-suc : (f : ℕ → ℕ) (n : ℕ) → total f (suc n) ≡ total f n + f n
unfolding total
total-suc f n = refl

pub total-more : (f : ℕ → ℕ) (n : ℕ) → total f (n + 1) ≡ total f n + f n
total-more f n = let e : n + 1 ≡ suc n = omega arith in rw e (total-suc f n)

pub total-alike : (f g : ℕ → ℕ) (n : ℕ) → ((k : ℕ) → k < n → f k ≡ g k) → total f n ≡ total g n
total-alike f g zero same = total-none f ∙ sym (total-none g)
total-alike f g (suc n) same =
    let before = total-alike f g n (λ k less. same k (omega arith)) in
    let last = same n (omega arith) in
    let one = total-suc f n in
    let other = total-suc g n in
    omega arith

pub total-zero : (f : ℕ → ℕ) (n : ℕ) → ((k : ℕ) → k < n → f k ≡ 0) → total f n ≡ 0
total-zero f zero none = total-none f
total-zero f (suc n) none =
    let before = total-zero f n (λ k less. none k (omega arith)) in
    let last = none n (omega arith) in
    let one = total-suc f n in
    omega arith

pub total-split : (f : ℕ → ℕ) (a b : ℕ) → total f (a + b) ≡ total f a + total (λ k. f (a + k)) b
total-split f a zero =
    let e : a + 0 ≡ a = omega arith in
    let none = total-none (λ k. f (a + k)) in
    rw e (omega arith)
total-split f a (suc b) =
    let e : a + suc b ≡ suc (a + b) = omega arith in
    let before = total-split f a b in
    let one = total-suc f (a + b) in
    let other = total-suc (λ k. f (a + k)) b in
    rw e (omega arith)

pub total-both : (f g : ℕ → ℕ) (n : ℕ) → total (λ k. f k + g k) n ≡ total f n + total g n
total-both f g zero =
    let one = total-none f in
    let other = total-none g in
    total-none (λ k. f k + g k) ∙ omega arith
total-both f g (suc n) =
    let before = total-both f g n in
    let both = total-suc (λ k. f k + g k) n in
    let one = total-suc f n in
    let other = total-suc g n in
    omega arith

pub total-times : (c : ℕ) (f : ℕ → ℕ) (n : ℕ) → total (λ k. c * f k) n ≡ c * total f n
total-times c f zero =
    let one = total-none f in
    total-none (λ k. c * f k) ∙ (rw one (omega arith))
total-times c f (suc n) =
    let before = total-times c f n in
    let one = total-suc (λ k. c * f k) n in
    let other = total-suc f n in
    rw other (one ∙ grind arith)

pub total-rows : (g : ℕ → ℕ) (b a : ℕ) → total g (a * b) ≡ total (λ s. total (λ m. g (m * b + s)) a) b
total-rows g b zero =
    let e : 0 * b ≡ 0 = omega arith in
    rw e (total-none g ∙ sym (total-zero (λ s. total (λ m. g (m * b + s)) 0) b (λ s less. total-none (λ m. g (m * b + s)))))
total-rows g b (suc a) =
    let e : suc a * b ≡ a * b + b = grind arith in
    let before = total-rows g b a in
    let split = total-split g (a * b) b in
    let both = total-both (λ s. total (λ m. g (m * b + s)) a) (λ s. g (a * b + s)) b in
    let last = total-alike (λ s. total (λ m. g (m * b + s)) (suc a)) (λ s. total (λ m. g (m * b + s)) a + g (a * b + s)) b
    (λ s less. total-suc (λ m. g (m * b + s)) a) in
    rw e (omega arith)

pub total-le : (f : ℕ → ℕ) (c n : ℕ) → ((k : ℕ) → k < n → f k ≤ c) → total f n ≤ n * c
total-le f c zero few = let none = total-none f in omega arith
total-le f c (suc n) few =
    let before = total-le f c n (λ k less. few k (omega arith)) in
    let last = few n (omega arith) in
    let one = total-suc f n in
    let e : suc n * c ≡ n * c + c = grind arith in
    omega arith

-- of a function that is 0 elsewhere it is enough to add up a stretch
pub total-window : (g : ℕ → ℕ) (a b n : ℕ) → a + b ≤ n → ((k : ℕ) → (k < a) ⊎ (a + b ≤ k) → g k ≡ 0) → total g n ≡ total (λ k. g (a + k)) b
total-window g a b n room none =
    let e : a + (b + (n - (a + b))) ≡ n = omega arith in
    let first = total-split g a (b + (n - (a + b))) in
    let second = total-split (λ k. g (a + k)) b (n - (a + b)) in
    let before = total-zero g a (λ k less. none k (inl less)) in
    let behind = total-zero (λ k. g (a + (b + k))) (n - (a + b)) (λ k less. none (a + (b + k)) (inr (omega arith))) in
    let whole : total g (a + (b + (n - (a + b)))) ≡ total (λ k. g (a + k)) b = omega arith in
    rw e at whole

ones-le : (b : Bool) (n c : ℕ) → n ≤ c → only_if b n ≤ c
ones-le true n c h = h
ones-le false n c h = omega arith

pub total_ones-le : (p : ℕ → Bool) (n : ℕ) → total (λ k. ones (p k)) n ≤ n
total_ones-le p n = let few = total-le (λ k. ones (p k)) 1 n (λ k less. ones-le (p k) 1 1 (omega arith)) in omega arith

-- ---- one number more

pub add-more : (f : ℕ → ℕ) (n count add : ℕ) → count ≡ total f n → add ≡ f n → count + add ≡ total f (n + 1)
add-more f n count add before e = let more = total-more f n in omega arith

pub keep-more : (f : ℕ → ℕ) (n count : ℕ) → count ≡ total f n → f n ≡ 0 → count ≡ total f (n + 1)
keep-more f n count before e = let more = total-more f n in omega arith

pub few-of : (p : ℕ → Bool) (n count : ℕ) → count ≡ total (λ k. ones (p k)) n → count ≤ n
few-of p n count e = let few = total_ones-le p n in omega arith

-- ---- a stretch more

pub add-stretch : (f : ℕ → ℕ) (a n b count add : ℕ) → count ≡ total f a → add ≡ total (λ k. f (a + k)) n → b ≡ a + n → count + add ≡ total f b
add-stretch f a n b count add before e is = let split = total-split f a n in rw is (omega arith)
