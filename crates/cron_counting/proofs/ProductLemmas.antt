-- How many times of day have an hour, a second and a minute in three sets: the product of their sizes.
use Rattle.std.proofs.Common.{◌≡◌, ℕ, ◌+◌, ◌*◌, ◌/◌, ◌%◌, ◌<◌, ◌≤◌, Bool, true, false, ◌&&◌, ◌||◌, List, [], ◌∷◌, get_or, length, refl, sym, ap, ◌∙◌, nat_lt, arith}
use Rattle.std.proofs.lemmas.Bool.{le-ltb, lt-ltb}
use Rattle.cron_bits.specs.Words.{count_below, has_bit}
use Rattle.cron_counting.specs.declared.span.Span.{Span}
use Rattle.cron_counting.specs.declared.times.Times.{Times}
use Rattle.cron_counting.specs.Inner.Times.{fits_any, fits_in, has_rest, is_within}
use Rattle.cron_counting.specs.Inner.Totals.{ones, total}
use Rattle.cron_counting.proofs.HourLemmas.{count-total}
use Rattle.cron_counting.proofs.TotalLemmas.{total-alike, total-rows, total-split, total-times, total-zero}

and_true : (b : Bool) → (b && true) ≡ b
and_true true = refl
and_true false = refl

and_false : (b : Bool) → (b && false) ≡ false
and_false true = refl
and_false false = refl

-- a test more that is the same for all of them
with_test : (p : ℕ → Bool) (c : Bool) (n : ℕ) → total (λ k. ones (p k && c)) n ≡ total (λ k. ones (p k)) n * ones c
with_test p true n = total-alike (λ k. ones (p k && true)) (λ k. ones (p k)) n (λ k less. ap ones (and_true (p k))) ∙ omega arith
with_test p false n = total-zero (λ k. ones (p k && false)) n (λ k less. ap ones (and_false (p k))) ∙ omega arith

-- a row and a column
pub total-product : (p q : ℕ → Bool) (f : ℕ → ℕ) (b a : ℕ) → ((m s : ℕ) → m < a → s < b → f (m * b + s) ≡ ones (p m && q s))
    → total f (a * b) ≡ total (λ m. ones (p m)) a * total (λ s. ones (q s)) b
total-product p q f b a parts =
    total-rows f b a
    ∙ (total-alike (λ s. total (λ m. f (m * b + s)) a) (λ s. total (λ m. ones (p m)) a * ones (q s)) b
    (λ s low. total-alike (λ m. f (m * b + s)) (λ m. ones (p m && q s)) a (λ m less. parts m s less low) ∙ with_test p (q s) a)
    ∙ total-times (total (λ m. ones (p m)) a) (λ s. ones (q s)) b)

-- the bits below a number
pub count-low : (p q : ℕ → Bool) (n rest : ℕ) → n + rest ≡ 64 → ((k : ℕ) → p k ≡ (nat_lt k n && q k)) → count_below p 64 ≡ total (λ k. ones (q k)) n
count-low p q n rest e same =
    let split = total-split (λ k. ones (p k)) n rest in
    let inside : (k : ℕ) → k < n → p k ≡ q k = λ k less. same k ∙ ap (λ b. b && q k) (lt-ltb k n less) in
    let behind : (k : ℕ) → p (n + k) ≡ false = λ k. same (n + k) ∙ ap (λ b. b && q (n + k)) (le-ltb (n + k) n (omega arith)) in
    let low : total (λ k. ones (p k)) n ≡ total (λ k. ones (q k)) n =
    total-alike (λ k. ones (p k)) (λ k. ones (q k)) n (λ k less. ap ones (inside k less)) in
    let none : total (λ k. ones (p (n + k))) rest ≡ 0 = total-zero (λ k. ones (p (n + k))) rest (λ k less. ap ones (behind k)) in
    let whole : total (λ k. ones (p k)) (n + rest) ≡ total (λ k. ones (q k)) n = omega arith in
    count-total p 64 ∙ (rw e at whole)

-- ---- the times of a day

minutes_last : (r q : Bool) → (q && r) ≡ (r && q)
minutes_last true true = refl
minutes_last true false = refl
minutes_last false true = refl
minutes_last false false = refl

or_false : (a : Bool) → (a || false) ≡ a
or_false true = refl
or_false false = refl

three : (h r q : Bool) → ((h && r) && q) ≡ (h && (q && r))
three true r q = minutes_last q r
three false r q = refl

module _ (h q r : ℕ → Bool) where
  abbrev pub in_hour : ℕ → Bool
  in_hour u = q (u / 60) && r (u % 60)

  pub hour-product : total (λ u. ones (in_hour u)) 3600 ≡ total (λ m. ones (q m)) 60 * total (λ s. ones (r s)) 60
  hour-product = total-product q r (λ u. ones (in_hour u)) 60 60 (λ m s low less. ap ones (parts m s less))
    where
      parts : (m s : ℕ) → s < 60 → in_hour (m * 60 + s) ≡ (q m && r s)
      parts m s less =
          let row : (m * 60 + s) / 60 ≡ m = omega arith in
          let column : (m * 60 + s) % 60 ≡ s = omega arith in
          ap (λ k. q k && r ((m * 60 + s) % 60)) row ∙ ap (λ k. q m && r k) column

  pub in_parts : (k u : ℕ) → u < 3600 → ((h ((k * 3600 + u) / 3600) && r ((k * 3600 + u) % 60)) && q ((k * 3600 + u) % 3600 / 60)) ≡ (h k && in_hour u)
  in_parts k u less =
      let hour : (k * 3600 + u) / 3600 ≡ k = omega arith in
      let second : (k * 3600 + u) % 60 ≡ u % 60 = omega arith in
      let minute : (k * 3600 + u) % 3600 / 60 ≡ u / 60 = omega arith in
      ap (λ i. (h i && r ((k * 3600 + u) % 60)) && q ((k * 3600 + u) % 3600 / 60)) hour
      ∙ (ap (λ i. (h k && r i) && q ((k * 3600 + u) % 3600 / 60)) second
      ∙ (ap (λ i. (h k && r (u % 60)) && q i) minute ∙ three (h k) (r (u % 60)) (q (u / 60))))

  pub day-product : total (λ t. ones ((h (t / 3600) && r (t % 60)) && q (t % 3600 / 60))) 86_400
      ≡ total (λ k. ones (h k)) 24 * total (λ u. ones (in_hour u)) 3600
  day-product =
      total-product h in_hour (λ t. ones ((h (t / 3600) && r (t % 60)) && q (t % 3600 / 60))) 3600 24 (λ m s low less. ap ones (in_parts m s less))

-- of one schedule, in each of its hours
pub rest-product : (x : Times) (minutes seconds : ℕ → Bool) (m s : ℕ) → ((k : ℕ) → minutes k ≡ (nat_lt k 60 && has_bit x.minutes k))
    → ((k : ℕ) → seconds k ≡ (nat_lt k 60 && has_bit x.seconds k)) → m ≡ count_below minutes 64 → s ≡ count_below seconds 64
    → m * s ≡ total (λ u. ones (has_rest x u)) 3600
rest-product x minutes seconds m s in_minutes in_seconds f g =
    let second = f ∙ count-low minutes (has_bit x.minutes) 60 4 refl in_minutes in
    let third = g ∙ count-low seconds (has_bit x.seconds) 60 4 refl in_seconds in
    rw (second, third) (sym (hour-product (has_bit x.hours) (has_bit x.minutes) (has_bit x.seconds)))

-- and on a day
pub one-product : (x : Times) (hours : ℕ → Bool) (h n : ℕ) → ((k : ℕ) → hours k ≡ (nat_lt k 24 && has_bit x.hours k))
    → h ≡ count_below hours 64 → n ≡ total (λ u. ones (has_rest x u)) 3600 → h * n ≡ total (λ t. ones (fits_any (x ∷ []) t)) 86_400
unfolding fits_any
one-product x hours h n in_hours e counted =
    let first = e ∙ count-low hours (has_bit x.hours) 24 40 refl in_hours in
    rw (first, counted) (sym (day-product (has_bit x.hours) (has_bit x.minutes) (has_bit x.seconds)))
    ∙ total-alike (λ t. ones ((has_bit x.hours (t / 3600) && has_bit x.seconds (t % 60)) && has_bit x.minutes (t % 3600 / 60)))
    (λ t. ones (((has_bit x.hours (t / 3600) && has_bit x.seconds (t % 60)) && has_bit x.minutes (t % 3600 / 60)) || false)) 86_400
    (λ t less. ap ones (sym (or_false ((has_bit x.hours (t / 3600) && has_bit x.seconds (t % 60)) && has_bit x.minutes (t % 3600 / 60)))))

-- on a whole day
pub one-whole : (xs : List Times) (x : Times) (span : Span) (count : ℕ) → xs ≡ x ∷ [] → ((t : ℕ) → t < 86_400 → is_within span t ≡ true)
    → count ≡ total (λ t. ones (fits_any (x ∷ []) t)) 86_400 → count ≡ total (λ t. ones (fits_in xs span t)) 86_400
one-whole xs x span count e covered counted =
    counted ∙ total-alike (λ t. ones (fits_any (x ∷ []) t)) (λ t. ones (fits_in xs span t)) 86_400
    (λ t less. ap (λ b. ones (b && fits_any (x ∷ []) t)) (sym (covered t less)) ∙ ap (λ l. ones (is_within span t && fits_any l t)) (sym e))

pub one-in : (xs : List Times) (d : Times) → 1 ≤ length xs → length xs < 2 → xs ≡ get_or xs 0 d ∷ []
one-in [] d some few = absurd (omega arith)
one-in (x ∷ []) d some few = refl
one-in (x ∷ y ∷ ys) d some few = absurd (omega arith)
