-- The numbers that pass a test, in order.
use Rattle.std.proofs.Common.{◌≡◌, ℕ, zero, suc, ◌+◌, ◌-◌, ◌<◌, ◌≤◌, Bool, true, false, cond, [], ◌∷◌, ◌++◌, length, Some, refl, sym, ap, subst, ◌∙◌, inl, inr, arith}
use Rattle.std.specs.Prelude.{count_by, filter, slice_get}
use Rattle.std.proofs.lemmas.Bool.{cases_lt}
use Rattle.std.proofs.lemmas.List.Elements.{filter-append}
use Rattle.std.proofs.lemmas.List.Sums.{length-filter}
use Rattle.cron_time.specs.Seconds.{numbers_below}
use Rattle.cron_time.proofs.PlaceLemmas.{slice_get-append, slice_get-left}
use Rattle.cron_time.proofs.Searches.TallyLemmas.{count_step, count_add}

filter_next : (test : ℕ → Bool) (n : ℕ) → filter test (numbers_below (suc n)) ≡ filter test (numbers_below n) ++ filter test (n ∷ [])
unfolding numbers_below
filter_next test n = filter-append test (numbers_below n) (n ∷ [])

pub filter_count : (test : ℕ → Bool) (n : ℕ) → length (filter test (numbers_below n)) ≡ count_by test (numbers_below n)
filter_count test n = length-filter test (numbers_below n)

add_none : (test : ℕ → Bool) (n : ℕ) → test n ≡ false → count_by test (numbers_below (suc n)) ≡ count_by test (numbers_below n)
add_none test n h =
    let fails : cond (test n) 1 0 ≡ zero = ap (λ b. cond b 1 0) h in omega (arith, count_step test n, fails)

pub add_one : (test : ℕ → Bool) (n : ℕ) → test n ≡ true → count_by test (numbers_below (n + 1)) ≡ count_by test (numbers_below n) + 1
add_one test n h =
    let P : ℕ → Type 0 = λ m. count_by test (numbers_below m) ≡ count_by test (numbers_below n) + 1 in
    let passes : cond (test n) 1 0 ≡ suc zero = ap (λ b. cond b 1 0) h in
    let e : suc n ≡ n + 1 = omega arith in
    subst P e (omega (arith, count_step test n, passes))

pub count_up : (test : ℕ → Bool) (a n : ℕ) → a ≤ n → count_by test (numbers_below a) ≤ count_by test (numbers_below n)
count_up test a n h =
    let e : a + (n - a) ≡ n = omega arith in
    let P : ℕ → Type 0 = λ m. count_by test (numbers_below a) ≤ count_by test (numbers_below m) in
    subst P e (omega (arith, count_add test a (n - a)))

pub count_flat : (test : ℕ → Bool) (a n : ℕ) → a ≤ n → ((k : ℕ) → a ≤ k → k < n → test k ≡ false)
    → count_by test (numbers_below n) ≡ count_by test (numbers_below a)
count_flat test a zero le none = let e : a ≡ 0 = omega arith in ap (λ n. count_by test (numbers_below n)) (sym e)
count_flat test a (suc n) le none =
    elim (cases_lt n a) [
      | inl past ↦ let e : suc n ≡ a = omega arith in ap (λ m. count_by test (numbers_below m)) e
      | inr ge ↦
          omega (arith, add_none test n (none n ge (omega arith)), count_flat test a n ge (λ k low high. none k low (omega arith)))
    ]

-- a number that passes stands behind as many as pass before it
pub place_passing : (test : ℕ → Bool) (limit c : ℕ) → c < limit → test c ≡ true
    → slice_get (filter test (numbers_below limit)) (count_by test (numbers_below c)) ≡ Some c
place_passing test zero c lt h = absurd (omega arith)
place_passing test (suc n) c lt h =
    elim (cases_lt c n) [
      | inl less ↦
          let up = count_up test (c + 1) n (omega arith) in
          let here = add_one test c h in
          ap (λ xs. slice_get xs (count_by test (numbers_below c))) (filter_next test n)
          ∙ slice_get-left (filter test (numbers_below n)) (filter test (n ∷ [])) (count_by test (numbers_below c))
          (omega (arith, filter_count test n, here, up)) ∙ place_passing test n c less h
      | inr ge ↦
          let same : c ≡ n = omega arith in
          let e : count_by test (numbers_below c) ≡ length (filter test (numbers_below n)) + 0 = omega (
            arith,
            filter_count test n,
            ap (λ k. count_by test (numbers_below k)) same,
          ) in
          let P : ℕ → Type 0 = λ k. test k ≡ true in
          ap (λ xs. slice_get xs (count_by test (numbers_below c))) (filter_next test n)
          ∙ ap (slice_get (filter test (numbers_below n) ++ filter test (n ∷ []))) e
          ∙ slice_get-append (filter test (numbers_below n)) (filter test (n ∷ [])) 0 ∙ last n (subst P same h) ∙ ap Some (sym same)
    ]
  where
    last : (n : ℕ) → test n ≡ true → slice_get (filter test (n ∷ [])) 0 ≡ Some n
    last n e = rw e refl
