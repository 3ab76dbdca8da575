-- Files without a last line that no line feed ends.
use Rattle.std.proofs.Common.{◌≡◌, ℕ, suc, ◌-◌, ◌<◌, ◌≤◌, ◌==◌, Bool, true, false, cond, List, [], ◌∷◌, ◌++◌, length, take, get_or, refl, ap, sym, ◌∙◌, arith}
use Rattle.std.proofs.Math.Seq.{take-suc}
use Rattle.std.proofs.lemmas.Bool.Decides.{Decides-eqb}
use Rattle.std.specs.Prelude.{◌||◌}
use Rattle.std.specs.List.{list_any}
use Rattle.cron_tab_running.specs.Ended.{ended}

or_true : (b : Bool) → (b || true) ≡ true
or_true true = refl
or_true false = refl

has_feed : List ℕ → Bool
has_feed l = list_any (λ b. b == 10) l

feed_last : (xs : List ℕ) → list_any (λ b. b == 10) (xs ++ 10 ∷ []) ≡ true
feed_last [] = refl
feed_last (x ∷ xs) = ap (λ b. (x == 10) || b) (feed_last xs) ∙ or_true (x == 10)

-- a file that ends in a line feed is ended
pub ended-feed : (xs : List ℕ) → ended (xs ++ 10 ∷ []) ≡ xs ++ 10 ∷ []
ended-feed [] = refl
ended-feed (x ∷ xs) =
    let is : ((x == 10) || list_any (λ b. b == 10) (xs ++ 10 ∷ [])) ≡ true = ap (λ b. (x == 10) || b) (feed_last xs) ∙ or_true (x == 10) in
    rw is (ap (λ l. x ∷ l) (ended-feed xs))

or_false : (b : Bool) → (b || false) ≡ b
or_false true = refl
or_false false = refl

feed_other : (xs : List ℕ) (c : ℕ) → (c == 10) ≡ false → list_any (λ b. b == 10) (xs ++ c ∷ []) ≡ list_any (λ b. b == 10) xs
feed_other [] c other = ap (λ b. b || false) other
feed_other (x ∷ xs) c other = ap (λ b. (x == 10) || b) (feed_other xs c other)

-- and another last byte is left out
pub ended-other : (xs : List ℕ) (c : ℕ) → (c == 10) ≡ false → ended (xs ++ c ∷ []) ≡ ended xs
ended-other [] c other = ap (λ b. cond (b || false) (c ∷ []) []) other
ended-other (x ∷ xs) c other =
    ap (λ b. cond ((x == 10) || b) (x ∷ ended (xs ++ c ∷ [])) []) (feed_other xs c other)
    ∙ ap (λ l. cond ((x == 10) || list_any (λ b. b == 10) xs) (x ∷ l) []) (ended-other xs c other)

unlike : (a : ℕ) → (a ≡ 10 → ⊥) → (a == 10) ≡ false
unlike a apart = by_test (a == 10) refl
  where
    by_test : (t : Bool) → (a == 10) ≡ t → t ≡ false
    by_test true is = absurd (apart ((Decides-eqb a 10).0 is))
    by_test false is = refl

last_cut : (l : List ℕ) (n k : ℕ) → n ≡ suc k → n ≤ length l → take n l ≡ take k l ++ get_or l k 0 ∷ []
last_cut l n k is within = rw is (take-suc l k 0 (omega arith))

pub shorter : (l : List ℕ) (n : ℕ) → 0 < n → n ≤ length l → (get_or l (n - 1) 0 ≡ 10 → ⊥) → ended (take n l) ≡ ended l → ended (take (n - 1) l) ≡ ended l
shorter l n some within other was =
    sym (ap ended (last_cut l n (n - 1) (omega arith) within) ∙ ended-other (take (n - 1) l) (get_or l (n - 1) 0) (unlike (get_or l (n - 1) 0) other)) ∙ was

pub whole : (l : List ℕ) (n : ℕ) → 0 < n → n ≤ length l → get_or l (n - 1) 0 ≡ 10 → ended (take n l) ≡ ended l → take n l ≡ ended l
whole l n some within feed was =
    let cut : take n l ≡ take (n - 1) l ++ 10 ∷ [] = last_cut l n (n - 1) (omega arith) within ∙ ap (λ b. take (n - 1) l ++ b ∷ []) feed in
    cut ∙ sym (ap ended cut ∙ ended-feed (take (n - 1) l)) ∙ was

pub nothing : (l : List ℕ) (n : ℕ) → n ≡ 0 → ended (take n l) ≡ ended l → take n l ≡ ended l
nothing l n is was = rw is (rw is at was)
