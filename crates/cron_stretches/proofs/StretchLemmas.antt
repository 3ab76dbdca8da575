-- The stretches of a function: a second in front of some, and a stretch in front of the others.
use Rattle.std.proofs.Common.{◌≡◌, ℕ, zero, suc, ◌+◌, ℤ, pos, negsuc, ◌+ℤ◌, ◌-ℤ◌, ◌≤ℤ◌, ◌<ℤ◌, Bool, true, false, cond, List, [], ◌∷◌, ◌⊎◌, inl, inr, refl, sym, ap, ◌∙◌, subst, arith}
use Rattle.std.proofs.lemmas.Int.{ints, by_lt_z}
use Rattle.cron_stretches.specs.declared.stretch.Stretch.{Stretch}
use Rattle.std.specs.Prelude.{Some, slice_get}
use Rattle.std.specs.List.{sum_by}
use Rattle.std.proofs.lemmas.List.Sums.{sum_by-cons}
use Rattle.cron_stretches.specs.Laws.{BeginsUnlike, HasSecond, IsEquality, IsRow, length_if}
use Rattle.cron_stretches.specs.Stretches.{IsAlike, count_between, count_seconds, put_before, seconds_from, stretches, stretches_between}

-- ---- how many seconds there are between two

pub seconds_from-is : (z : ℤ) → pos 0 ≤ℤ z → pos (seconds_from z) ≡ z
seconds_from-is (pos n) h = refl
seconds_from-is (negsuc n) h = absurd (omega (arith, ints))

pub seconds_from-none : (z : ℤ) → z ≤ℤ pos 0 → seconds_from z ≡ 0
seconds_from-none (pos n) h = omega (arith, ints)
seconds_from-none (negsuc n) h = refl

pub seconds_from-suc : (a b c : ℤ) → b ≡ a +ℤ pos 1 → b ≤ℤ c → seconds_from (c -ℤ a) ≡ suc (seconds_from (c -ℤ b))
seconds_from-suc a b c is le =
    let whole : pos (seconds_from (c -ℤ a)) ≡ c -ℤ a = seconds_from-is (c -ℤ a) (omega (arith, ints)) in
    let rest : pos (seconds_from (c -ℤ b)) ≡ c -ℤ b = seconds_from-is (c -ℤ b) (omega (arith, ints)) in
    omega (arith, ints)

split_seconds : (n e to : ℤ) → n <ℤ e → e ≤ℤ to → seconds_from (to -ℤ n) ≡ suc (seconds_from (e -ℤ (n +ℤ pos 1)) + seconds_from (to -ℤ e))
split_seconds n e to less le =
    let whole : pos (seconds_from (to -ℤ n)) ≡ to -ℤ n = seconds_from-is (to -ℤ n) (omega (arith, ints)) in
    let first : pos (seconds_from (e -ℤ (n +ℤ pos 1))) ≡ e -ℤ (n +ℤ pos 1) = seconds_from-is (e -ℤ (n +ℤ pos 1)) (omega (arith, ints)) in
    let rest : pos (seconds_from (to -ℤ e)) ≡ to -ℤ e = seconds_from-is (to -ℤ e) (omega (arith, ints)) in
    omega (arith, ints)

first_seconds : (n e : ℤ) → n <ℤ e → e ≡ n +ℤ pos (suc (seconds_from (e -ℤ (n +ℤ pos 1))))
first_seconds n e less =
    let first : pos (seconds_from (e -ℤ (n +ℤ pos 1))) ≡ e -ℤ (n +ℤ pos 1) = seconds_from-is (e -ℤ (n +ℤ pos 1)) (omega (arith, ints)) in
    omega (arith, ints)

no_seconds : (k : ℕ) (e to : ℤ) → k ≡ seconds_from (to -ℤ e) → e ≡ to → k ≡ 0
no_seconds k e to is same = is ∙ seconds_from-none (to -ℤ e) (omega (arith, ints))

module _ {A : Type 0} (eq : A → A → Bool) (equal : IsEquality eq) (value : ℤ → A) where
  -- the seconds from one on that come before another have a value
  abbrev pub AllAre : ℤ → ℤ → A → Type 0
  AllAre n e v = (i : ℤ) → n ≤ℤ i → i <ℤ e → value i ≡ v

  -- ---- a second in front

  unlike_put : (u v : A) (n : ℤ) (l : List (Stretch A)) → eq u v ≡ false → BeginsUnlike eq u (put_before eq n v l)
  unlike_put u v n [] h = h
  unlike_put u v n (s ∷ l) h = by_test (eq v s.value)
    where
      by_test : (b : Bool) → BeginsUnlike eq u (cond b (record { first = n; end = s.end; value = v } ∷ l) (record { first = n; end = n +ℤ pos 1; value = v } ∷ s ∷ l))
      by_test true = h
      by_test false = h

  put_unlike : (n : ℤ) (v : A) (l : List (Stretch A)) → BeginsUnlike eq v l → put_before eq n v l ≡ record { first = n; end = n +ℤ pos 1; value = v } ∷ l
  put_unlike n v [] u = refl
  put_unlike n v (s ∷ l) u = rw u refl

  in_front : (n e : ℤ) (v : A) (l : List (Stretch A)) → value n ≡ v → BeginsUnlike eq v l → e ≡ n +ℤ pos 1
      → put_before eq n (value n) l ≡ record { first = n; end = e; value = v } ∷ l
  in_front n e v l here u is = rw (here, is) (put_unlike n v l u)

  in_front_alike : (n e : ℤ) (v : A) (l : List (Stretch A)) → value n ≡ v
      → put_before eq n (value n) (record { first = n +ℤ pos 1; end = e; value = v } ∷ l) ≡ record { first = n; end = e; value = v } ∷ l
  in_front_alike n e v l here = let same : eq v v ≡ true = equal.itself v in rw (here, same) refl

  -- ---- a stretch in front

  begins-unlike : (u : A) (n : ℤ) (k : ℕ) → (k ≡ 0) ⊎ (eq u (value n) ≡ false) → BeginsUnlike eq u (stretches eq value n k)
  unfolding stretches
  begins-unlike u n zero h = tt
  begins-unlike u n (suc k) (inl none) = absurd (omega arith)
  begins-unlike u n (suc k) (inr h) = unlike_put u (value n) n (stretches eq value (n +ℤ pos 1) k) h

  stretches-suc : (n : ℤ) (k : ℕ) → stretches eq value n (suc k) ≡ put_before eq n (value n) (stretches eq value (n +ℤ pos 1) k)
  unfolding stretches
  stretches-suc n k = refl

  run_from : (j k : ℕ) (n e : ℤ) (v : A) → e ≡ n +ℤ pos (suc j) → AllAre n e v → (k ≡ 0) ⊎ (eq v (value e) ≡ false)
      → stretches eq value n (suc (j + k)) ≡ record { first = n; end = e; value = v } ∷ stretches eq value e k
  run_from zero k n e v is alike ends =
      let same : zero + k ≡ k = omega arith in
      let next : n +ℤ pos 1 ≡ e = omega (arith, ints) in
      let here : value n ≡ v = alike n (omega (arith, ints)) (omega (arith, ints)) in
      stretches-suc n (zero + k)
      ∙ ap (λ (q : ℕ). put_before eq n (value n) (stretches eq value (n +ℤ pos 1) q)) same
      ∙ ap (λ (p : ℤ). put_before eq n (value n) (stretches eq value p k)) next
      ∙ in_front n e v (stretches eq value e k) here (begins-unlike v e k ends) (sym next)
  run_from (suc j) k n e v is alike ends =
      let same : suc j + k ≡ suc (j + k) = omega arith in
      let here : value n ≡ v = alike n (omega (arith, ints)) (omega (arith, ints)) in
      let rest = run_from j k (n +ℤ pos 1) e v (omega (arith, ints)) (λ i low high. alike i (omega (arith, ints)) high) ends in
      stretches-suc n (suc j + k)
      ∙ ap (λ (q : ℕ). put_before eq n (value n) (stretches eq value (n +ℤ pos 1) q)) same
      ∙ ap (put_before eq n (value n)) rest
      ∙ in_front_alike n e v (stretches eq value e k) here

  ends_at : (e to : ℤ) (v : A) → (e ≡ to) ⊎ (eq v (value e) ≡ false) → (seconds_from (to -ℤ e) ≡ 0) ⊎ (eq v (value e) ≡ false)
  ends_at e to v (inl same) = inl (no_seconds (seconds_from (to -ℤ e)) e to refl same)
  ends_at e to v (inr h) = inr h

  -- the greatest stretch of a value stands in front of the others
  pub run : (n e to : ℤ) (v : A) → n <ℤ e → e ≤ℤ to → AllAre n e v → (e ≡ to) ⊎ (eq v (value e) ≡ false)
      → stretches_between eq value n to ≡ record { first = n; end = e; value = v } ∷ stretches_between eq value e to
  run n e to v less le alike ends =
      ap (stretches eq value n) (split_seconds n e to less le)
      ∙ run_from (seconds_from (e -ℤ (n +ℤ pos 1))) (seconds_from (to -ℤ e)) n e v (first_seconds n e less) alike (ends_at e to v ends)

  pub none_left : (n to : ℤ) → to ≤ℤ n → stretches_between eq value n to ≡ []
  unfolding stretches
  none_left n to le = ap (stretches eq value n) (seconds_from-none (to -ℤ n) (omega (arith, ints)))

  -- ---- they are a row

  unlike-same : (u v : A) (l : List (Stretch A)) → u ≡ v → BeginsUnlike eq v l → BeginsUnlike eq u l
  unlike-same u v l is h = subst (λ w. BeginsUnlike eq w l) (sym is) h

  put_row : (n e : ℤ) (v : A) (l : List (Stretch A)) → IsRow eq (n +ℤ pos 1) e l → IsRow eq n e (put_before eq n v l)
  put_row n e v [] row = (refl, omega (arith, ints), tt, row)
  put_row n e v (s ∷ l) row = by_test (eq v s.value) refl
    where
      by_test : (b : Bool) → eq v s.value ≡ b
          → IsRow eq n e (cond b (record { first = n; end = s.end; value = v } ∷ l) (record { first = n; end = n +ℤ pos 1; value = v } ∷ s ∷ l))
      by_test true is =
          let far : (n +ℤ pos 1) <ℤ s.end = row.1 in
          (refl, omega (arith, ints), unlike-same v s.value l (equal.same v s.value is) row.2, row.3)
      by_test false is = (refl, omega (arith, ints), is, row)

  row_from : (k : ℕ) (n e : ℤ) → e ≡ n +ℤ pos k → IsRow eq n e (stretches eq value n k)
  unfolding stretches
  row_from zero n e is = omega (arith, ints)
  row_from (suc k) n e is = put_row n e (value n) (stretches eq value (n +ℤ pos 1) k) (row_from k (n +ℤ pos 1) e (omega (arith, ints)))

  pub row : (from to : ℤ) → from ≤ℤ to → IsRow eq from to (stretches_between eq value from to)
  row from to le =
      let is : pos (seconds_from (to -ℤ from)) ≡ to -ℤ from = seconds_from-is (to -ℤ from) (omega (arith, ints)) in
      row_from (seconds_from (to -ℤ from)) from to (omega (arith, ints))

  -- ---- each second lies in one

  first_has : (s : Stretch A) (l : List (Stretch A)) (t : ℤ) → s.first ≤ℤ t → t <ℤ s.end → HasSecond (s ∷ l) t
  first_has s l t low high = record { stretch = s; place = 0; here = refl; from = low; to = high }

  rest_has : (s : Stretch A) (l : List (Stretch A)) (t : ℤ) → HasSecond l t → HasSecond (s ∷ l) t
  rest_has s l t h = record { stretch = h.stretch; place = suc h.place; here = h.here; from = h.from; to = h.to }

  row_has : (l : List (Stretch A)) (n e t : ℤ) → IsRow eq n e l → n ≤ℤ t → t <ℤ e → HasSecond l t
  row_has [] n e t row low high = absurd (omega (arith, ints))
  row_has (s ∷ l) n e t row low high =
      let begins : s.first ≡ n = row.0 in
      by_lt_z t s.end
      (λ here. first_has s l t (omega (arith, ints)) here)
      (λ later. rest_has s l t (row_has l s.end e t row.3 later high))

  pub has-second : (from to t : ℤ) → from ≤ℤ t → t <ℤ to → HasSecond (stretches_between eq value from to) t
  has-second from to t low high = row_has (stretches_between eq value from to) from to t (row from to (omega (arith, ints))) low high

  -- ---- all seconds of one have its value

  AllAlike : List (Stretch A) → Type 0
  AllAlike l = (place : ℕ) (s : Stretch A) → slice_get l place ≡ Some s → IsAlike value s

  all_alike : (s : Stretch A) (l : List (Stretch A)) → IsAlike value s → AllAlike l → AllAlike (s ∷ l)
  unfolding AllAlike
  all_alike s l first rest zero q e = let same : s ≡ q = cc in subst (IsAlike value) same first
  all_alike s l first rest (suc place) q e = rest place q e

  rest_alike : (s : Stretch A) (l : List (Stretch A)) → AllAlike (s ∷ l) → AllAlike l
  unfolding AllAlike
  rest_alike s l all place q e = all (suc place) q e

  none_alike : AllAlike []
  unfolding AllAlike
  none_alike place q e = absurd (cc)

  first_alike : (s : Stretch A) (l : List (Stretch A)) → AllAlike (s ∷ l) → IsAlike value s
  unfolding AllAlike
  first_alike s l all = all zero s refl

  one_alike : (n : ℤ) (v : A) → value n ≡ v → IsAlike value (record { first = n; end = n +ℤ pos 1; value = v })
  one_alike n v here i low high = let same : i ≡ n = omega (arith, ints) in ap value same ∙ here

  longer_alike : (n : ℤ) (v : A) (s : Stretch A) → value n ≡ v → s.first ≡ n +ℤ pos 1 → v ≡ s.value → IsAlike value s
      → IsAlike value (record { first = n; end = s.end; value = v })
  longer_alike n v s here begins is alike i low high =
      by_lt_z n i
      (λ later. alike i (omega (arith, ints)) high ∙ sym is)
      (λ first. let same : i ≡ n = omega (arith, ints) in ap value same ∙ here)

  put_all_alike : (n e : ℤ) (v : A) (l : List (Stretch A)) → value n ≡ v → IsRow eq (n +ℤ pos 1) e l → AllAlike l → AllAlike (put_before eq n v l)
  put_all_alike n e v [] here row all = all_alike (record { first = n; end = n +ℤ pos 1; value = v }) [] (one_alike n v here) none_alike
  put_all_alike n e v (s ∷ l) here row all = by_test (eq v s.value) refl
    where
      by_test : (b : Bool) → eq v s.value ≡ b
          → AllAlike (cond b (record { first = n; end = s.end; value = v } ∷ l) (record { first = n; end = n +ℤ pos 1; value = v } ∷ s ∷ l))
      by_test true is =
          all_alike (record { first = n; end = s.end; value = v }) l
          (longer_alike n v s here row.0 (equal.same v s.value is) (first_alike s l all)) (rest_alike s l all)
      by_test false is = all_alike (record { first = n; end = n +ℤ pos 1; value = v }) (s ∷ l) (one_alike n v here) all

  all_alike_from : (k : ℕ) (n : ℤ) → AllAlike (stretches eq value n k)
  unfolding stretches
  all_alike_from zero n = none_alike
  all_alike_from (suc k) n =
      put_all_alike n ((n +ℤ pos 1) +ℤ pos k) (value n) (stretches eq value (n +ℤ pos 1) k) refl (row_from k (n +ℤ pos 1) ((n +ℤ pos 1) +ℤ pos k) refl)
      (all_alike_from k (n +ℤ pos 1))

  pub alike-each : (from to : ℤ) (place : ℕ) (s : Stretch A) → slice_get (stretches_between eq value from to) place ≡ Some s → IsAlike value s
  unfolding AllAlike
  alike-each from to place s e = all_alike_from (seconds_from (to -ℤ from)) from place s e

  -- ---- their lengths add up

  lengthened : (b : Bool) (n first end : ℤ) → first ≡ n +ℤ pos 1 → first <ℤ end
      → cond b (seconds_from (end -ℤ n)) 0 ≡ cond b 1 0 + cond b (seconds_from (end -ℤ first)) 0
  lengthened true n first end is less = let more = seconds_from-suc n first end is (omega (arith, ints)) in omega arith
  lengthened false n first end is less = refl

  one_second : (b : Bool) (n : ℤ) → cond b (seconds_from ((n +ℤ pos 1) -ℤ n)) 0 ≡ cond b 1 0
  one_second true n = let one : pos (seconds_from ((n +ℤ pos 1) -ℤ n)) ≡ (n +ℤ pos 1) -ℤ n = seconds_from-is ((n +ℤ pos 1) -ℤ n) (omega (arith, ints)) in omega (arith, ints)
  one_second false n = refl

  put_sum : (test : A → Bool) (n e : ℤ) (v : A) (l : List (Stretch A)) → IsRow eq (n +ℤ pos 1) e l
      → sum_by (length_if test) (put_before eq n v l) ≡ cond (test v) 1 0 + sum_by (length_if test) l
  put_sum test n e v [] row =
      let one = one_second (test v) n in
      let split = sum_by-cons (length_if test) (record { first = n; end = n +ℤ pos 1; value = v }) [] in
      omega arith
  put_sum test n e v (s ∷ l) row = by_test (eq v s.value) refl
    where
      by_test : (b : Bool) → eq v s.value ≡ b
          → sum_by (length_if test) (cond b (record { first = n; end = s.end; value = v } ∷ l) (record { first = n; end = n +ℤ pos 1; value = v } ∷ s ∷ l))
          ≡ cond (test v) 1 0 + sum_by (length_if test) (s ∷ l)
      by_test true is =
          let same : v ≡ s.value = equal.same v s.value is in
          let begins : s.first ≡ n +ℤ pos 1 = row.0 in
          let ends : (n +ℤ pos 1) <ℤ s.end = row.1 in
          let longer = lengthened (test v) n s.first s.end begins (omega (arith, ints)) in
          let old : length_if test s ≡ cond (test v) (seconds_from (s.end -ℤ s.first)) 0 = ap (λ w. cond (test w) (seconds_from (s.end -ℤ s.first)) 0) (sym same) in
          let split = sum_by-cons (length_if test) (record { first = n; end = s.end; value = v }) l in
          let split_old = sum_by-cons (length_if test) s l in
          omega arith
      by_test false is =
          let one = one_second (test v) n in
          let split = sum_by-cons (length_if test) (record { first = n; end = n +ℤ pos 1; value = v }) (s ∷ l) in
          omega arith

  sum_from : (test : A → Bool) (k : ℕ) (n : ℤ) → sum_by (length_if test) (stretches eq value n k) ≡ count_seconds (λ t. test (value t)) n k
  unfolding stretches count_seconds
  sum_from test zero n = refl
  sum_from test (suc k) n =
      put_sum test n ((n +ℤ pos 1) +ℤ pos k) (value n) (stretches eq value (n +ℤ pos 1) k) (row_from k (n +ℤ pos 1) ((n +ℤ pos 1) +ℤ pos k) refl)
      ∙ ap (λ (m : ℕ). cond (test (value n)) 1 0 + m) (sum_from test k (n +ℤ pos 1))

  pub sum-is : (test : A → Bool) (from to : ℤ) → sum_by (length_if test) (stretches_between eq value from to) ≡ count_between (λ t. test (value t)) from to
  sum-is test from to = sum_from test (seconds_from (to -ℤ from)) from
