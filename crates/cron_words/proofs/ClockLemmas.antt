-- Times of day by the clock are told apart, with what stands behind them.
use Rattle.std.proofs.Common.{◌≡◌, ◌==◌, ◌<◌, ◌^◌, ℕ, Bool, true, false, cond, nat_lt, List, [], ◌∷◌, ◌++◌, drop, get_or, refl, sym, ap, ◌∙◌, append_assoc, arith}
use Rattle.std.proofs.lemmas.Bool.{eqb-true, false≢true}
use Rattle.std.proofs.lemmas.Fmt.{decimal_is_IsNumeral}
use Rattle.std.specs.Fmt.{decimal}
use Rattle.std.specs.List.{list_all}
use Rattle.std.specs.Str.Parse.{digits_value}
use Rattle.cron_text.specs.Tokens.{is_digit}
use Rattle.cron_words.specs.Clocks.{clock_text, two_digits}
use Rattle.cron_words.proofs.DigitLemmas.{all_append, cut, decimal_digits, decimal_first, digits_are_word, heads, is_word}

two_digit : (n : ℕ) → n < 2 ^ 32 → list_all is_digit (two_digits n) ≡ true
two_digit n l = by_test (nat_lt n 10) where
  by_test : (small : Bool) → list_all is_digit (cond small (48 ∷ decimal n) (decimal n)) ≡ true
  by_test true = decimal_digits n l
  by_test false = decimal_digits n l

two_value : (n : ℕ) → n < 2 ^ 32 → digits_value 10 (two_digits n) ≡ n
two_value n l = by_test (nat_lt n 10) where
  by_test : (small : Bool) → digits_value 10 (cond small (48 ∷ decimal n) (decimal n)) ≡ n
  by_test true = (decimal_is_IsNumeral n (omega arith)).1
  by_test false = (decimal_is_IsNumeral n (omega arith)).1

two_first : (n : ℕ) (r : List ℕ) → n < 2 ^ 32 → is_digit (get_or (two_digits n ++ r) 0 0) ≡ true
two_first n r l = by_test (nat_lt n 10) where
  by_test : (small : Bool) → is_digit (get_or (cond small (48 ∷ decimal n) (decimal n) ++ r) 0 0) ≡ true
  by_test true = refl
  by_test false = decimal_first n r l

two_apart : (n m : ℕ) (r q : List ℕ) → n < 2 ^ 32 → m < 2 ^ 32 → heads is_digit r ≡ false → heads is_digit q ≡ false
    → two_digits n ++ r ≡ two_digits m ++ q → (n ≡ m) × (r ≡ q)
two_apart n m r q f g h k e =
    let c = cut is_digit (two_digits n) (two_digits m) r q (two_digit n f) (two_digit m g) h k e in
    (sym (two_value n f) ∙ (ap (digits_value 10) c.0 ∙ two_value m g), c.1)

abbrev seconds_text : ℕ → List ℕ
seconds_text s = cond (s == 0) [] (58 ∷ two_digits s)

-- what may stand behind a time of day: no digit and no colon
pub record IsBehindClock (r : List ℕ) : Type 0 where
  pub digit : heads is_digit r ≡ false
  pub colon : (get_or r 0 0 == 58) ≡ false

pub none_behind : IsBehindClock []
none_behind = record { digit = refl; colon = refl }

no_colon : (r x : List ℕ) → IsBehindClock r → r ≡ 58 ∷ x → ⊥
no_colon r x h e = false≢true (sym h.colon ∙ ap (λ (t : List ℕ). get_or t 0 0 == 58) e)

seconds_behind : (s : ℕ) (r : List ℕ) → IsBehindClock r → heads is_digit (seconds_text s ++ r) ≡ false
seconds_behind s r h = by_test (s == 0) where
  by_test : (none : Bool) → heads is_digit ((cond none [] (58 ∷ two_digits s)) ++ r) ≡ false
  by_test true = h.digit
  by_test false = refl

seconds_apart : (s t : ℕ) (r q : List ℕ) → s < 2 ^ 32 → t < 2 ^ 32 → IsBehindClock r → IsBehindClock q → seconds_text s ++ r ≡ seconds_text t ++ q
    → (s ≡ t) × (r ≡ q)
seconds_apart s t r q f g h k e = by_test (s == 0) (t == 0) refl refl e where
  by_test : (x y : Bool) → (s == 0) ≡ x → (t == 0) ≡ y → (cond x [] (58 ∷ two_digits s)) ++ r ≡ (cond y [] (58 ∷ two_digits t)) ++ q → (s ≡ t) × (r ≡ q)
  by_test true true x y i = (eqb-true s 0 x ∙ sym (eqb-true t 0 y), i)
  by_test true false x y i = absurd (no_colon r _ h i)
  by_test false true x y i = absurd (no_colon q _ k (sym i))
  by_test false false x y i = two_apart s t r q f g h.digit k.digit (ap (drop 1) i)

clock_on : (h m s : ℕ) (r : List ℕ) → clock_text h m s ++ r ≡ two_digits h ++ (58 ∷ (two_digits m ++ (seconds_text s ++ r)))
clock_on h m s r =
    append_assoc (two_digits h) (58 ∷ (two_digits m ++ seconds_text s)) r
    ∙ ap (λ (x : List ℕ). two_digits h ++ 58 ∷ x) (append_assoc (two_digits m) (seconds_text s) r)

-- numbers below so many
abbrev pub Small : ℕ → ℕ → ℕ → Type 0
Small h m s = (h < 2 ^ 32) × (m < 2 ^ 32) × (s < 2 ^ 32)

pub clocks_apart : (h m s i n t : ℕ) (r q : List ℕ) → Small h m s → Small i n t → IsBehindClock r → IsBehindClock q
    → clock_text h m s ++ r ≡ clock_text i n t ++ q → ((h ≡ i) × (m ≡ n) × (s ≡ t)) × (r ≡ q)
clocks_apart h m s i n t r q f g v w e =
    let c = two_apart h i (58 ∷ (two_digits m ++ (seconds_text s ++ r))) (58 ∷ (two_digits n ++ (seconds_text t ++ q))) f.0 g.0 refl refl
    (sym (clock_on h m s r) ∙ (e ∙ clock_on i n t q)) in
    let d = two_apart m n (seconds_text s ++ r) (seconds_text t ++ q) f.1 g.1 (seconds_behind s r v) (seconds_behind t q w) (ap (drop 1) c.1) in
    let l = seconds_apart s t r q f.2 g.2 v w d.1 in
    ((c.0, d.0, l.0), l.1)

pub clock_first : (h m s : ℕ) (r : List ℕ) → h < 2 ^ 32 → is_digit (get_or (clock_text h m s ++ r) 0 0) ≡ true
clock_first h m s r l =
    ap (λ (x : List ℕ). is_digit (get_or x 0 0)) (clock_on h m s r) ∙ two_first h (58 ∷ (two_digits m ++ (seconds_text s ++ r))) l

two_word : (n : ℕ) → n < 2 ^ 32 → list_all is_word (two_digits n) ≡ true
two_word n l = digits_are_word (two_digits n) (two_digit n l)

seconds_word : (s : ℕ) → s < 2 ^ 32 → list_all is_word (seconds_text s) ≡ true
seconds_word s l = by_test (s == 0) where
  by_test : (none : Bool) → list_all is_word (cond none [] (58 ∷ two_digits s)) ≡ true
  by_test true = refl
  by_test false = two_word s l

pub clock_word : (h m s : ℕ) → Small h m s → list_all is_word (clock_text h m s) ≡ true
clock_word h m s f =
    all_append is_word (two_digits h) (58 ∷ (two_digits m ++ seconds_text s)) (two_word h f.0)
    (all_append is_word (two_digits m) (seconds_text s) (two_word m f.1) (seconds_word s f.2))
