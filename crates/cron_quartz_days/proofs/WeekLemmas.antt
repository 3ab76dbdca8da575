-- Which such day of the week of its month a day is.
use Rattle.std.proofs.Common.{◌≡◌, ◌≤◌, ◌<◌, ◌+◌, ◌-◌, ◌/◌, ◌%◌, ◌==◌, ℕ, zero, suc, Bool, true, false, cond, List, [], ◌∷◌, refl, ap, ◌∙◌, arith, nat_eq}
use Rattle.std.specs.Prelude.{count_by}
use Rattle.std.specs.List.{range_with_len}
use Rattle.std.proofs.lemmas.Bool.Decides.{nat_tests}
use Rattle.std.proofs.lemmas.Bool.{eq-eqb}
use Rattle.std.proofs.lemmas.List.Sums.{sum_by-append}
use Rattle.jiff_core.specs.declared.civil.date.Date.{Date}
use Rattle.jiff_core.specs.Calendar.{days_from_civil}
use Rattle.jiff_core.specs.Calendar as calendar
use Rattle.jiff_core.proofs.CalendarLemmas.{weekday_number_bound}
use Rattle.jiff_core.proofs.DateLemmas.{weekday_number-day}
use Rattle.cron_moments.specs.Calendar.{weekday_number}
use Rattle.cron_quartz_days.specs.Runs.{place_in_month, weekday_in}

-- ---- counting

count_more : (p : ℕ → Bool) (x : ℕ) (xs : List ℕ) → count_by p (x ∷ xs) ≡ cond (p x) 1 0 + count_by p xs
count_more p x xs = let one = sum_by-append (λ y. cond (p y) 1 0) (x ∷ []) xs in one ∙ ap (λ k. k + count_by p xs) (single (p x))
  where
    single : (b : Bool) → 0 + cond b 1 0 ≡ cond b 1 0
    single true = omega arith
    single false = omega arith

-- one more week where a day begins it
week_more : (n c : ℕ) (b : Bool) → b ≡ nat_eq (n % 7) 0 → c ≡ (n + 6) / 7 → cond b 1 0 + c ≡ (suc n + 6) / 7
week_more n c true is e = let zero_left : n % 7 ≡ 0 = grind (arith, nat_tests) in omega arith
week_more n c false is e = let some_left : (n % 7 ≡ 0) → ⊥ = λ z. grind (arith, nat_tests) in omega (arith, some_left)

weeks : (p : ℕ → Bool) (a n : ℕ) → ((j : ℕ) → a ≤ j → j < a + n → p j ≡ nat_eq ((a + n - 1 - j) % 7) 0) → count_by p (range_with_len a n) ≡ (n + 6) / 7
weeks p a zero each = refl
weeks p a (suc n) each =
    let here : a + suc n - 1 - a ≡ n = omega arith in
    let first : p a ≡ nat_eq (n % 7) 0 = each a (omega arith) (omega arith) ∙ ap (λ k. nat_eq (k % 7) 0) here in
    let rest = weeks p (a + 1) n (λ j low high. let same : a + 1 + n ≡ a + suc n = omega arith in rw same (each j (omega arith) (omega arith))) in
    count_more p a (range_with_len (a + 1) n) ∙ week_more n (count_by p (range_with_len (a + 1) n)) (p a) first rest

-- ---- days of one month

equal_of : (a b : ℕ) → nat_eq a b ≡ true → a ≡ b
equal_of a b is = grind (arith, nat_tests)

tests_same : (a b c d : ℕ) → (a ≡ b → c ≡ d) → (c ≡ d → a ≡ b) → nat_eq a b ≡ nat_eq c d
tests_same a b c d to from = by_tests (nat_eq a b) (nat_eq c d) refl refl
  where
    by_tests : (u v : Bool) → nat_eq a b ≡ u → nat_eq c d ≡ v → u ≡ v
    by_tests true true f g = refl
    by_tests false false f g = refl
    by_tests true false f g = let e : c ≡ d = to (equal_of a b f) in let yes : nat_eq c d ≡ true = eq-eqb c d e in absurd (cc)
    by_tests false true f g = let e : a ≡ b = from (equal_of c d g) in let yes : nat_eq a b ≡ true = eq-eqb a b e in absurd (cc)

same_weekday : (v w k : ℕ) → v < 7 → w ≡ (v + k) % 7 → ((v + 1) % 7 + 1 == (w + 1) % 7 + 1) ≡ nat_eq (k % 7) 0
same_weekday v w k small e =
    tests_same ((v + 1) % 7 + 1) ((w + 1) % 7 + 1) (k % 7) 0 (λ f. omega arith) (λ f. omega arith)

pub place_is : (d : Date) → place_in_month d ≡ (d.day + 6) / 7
place_is d = weeks (λ day. weekday_in d.year d.month day == weekday_number d) 1 d.day each
  where
    each : (j : ℕ) → 1 ≤ j → j < 1 + d.day → (weekday_in d.year d.month j == weekday_number d) ≡ nat_eq ((1 + d.day - 1 - j) % 7) 0
    each j low high =
        let same : 1 + d.day - 1 - j ≡ d.day - j = omega arith in
        let moved = weekday_number-day d.year d.month j d.day low (omega arith) in
        rw same (same_weekday (calendar.weekday_number (days_from_civil d.year d.month j)) (calendar.weekday_number (days_from_civil d.year d.month d.day)) (d.day - j)
        (weekday_number_bound (days_from_civil d.year d.month j)) moved)
