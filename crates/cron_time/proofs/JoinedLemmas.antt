-- A long list that is joined from a short list for each number.
use Rattle.std.proofs.Common.{◌≡◌, ℕ, zero, suc, ◌+◌, ◌-◌, ◌<◌, ◌≤◌, Bool, true, false, cond, List, [], ◌∷◌, ◌++◌, length, Some, refl, sym, ap, ◌∙◌, arith, inl, inr, append-nil, length-append}
use Rattle.std.specs.Prelude.{filter, slice_get}
use Rattle.std.specs.List.{flat_map}
use Rattle.std.proofs.lemmas.Bool.{cases_lt}
use Rattle.std.proofs.lemmas.List.Concat.{flat_map-append}
use Rattle.cron_time.specs.Seconds.{numbers_below}
use Rattle.cron_time.proofs.PlaceLemmas.{slice_get-append, slice_get-left, nothing_in_nil}

-- a filter, and then a list for each number that is left
pub flat_map-filter : {X A : Type 0} (f : X → List A) (p : X → Bool) (xs : List X) → flat_map f (filter p xs) ≡ flat_map (λ x. cond (p x) (f x) []) xs
flat_map-filter f p [] = refl
flat_map-filter f p (x ∷ xs) =
    elim (p x) as (λ b. flat_map f (cond b (x ∷ filter p xs) (filter p xs)) ≡ cond b (f x) [] ++ flat_map (λ x. cond (p x) (f x) []) xs) [
      | true ↦ ap (λ ys. f x ++ ys) (flat_map-filter f p xs)
      | false ↦ flat_map-filter f p xs
    ]

module _ {A : Type 0} (g : ℕ → List A) where
  -- the lists of the numbers below n
  abbrev pub joined : ℕ → List A
  joined n = flat_map g (numbers_below n)

  pub joined-zero : joined 0 ≡ []
  unfolding numbers_below
  joined-zero = refl

  pub joined-suc : (n : ℕ) → joined (suc n) ≡ joined n ++ g n
  unfolding numbers_below
  joined-suc n = flat_map-append g (numbers_below n) (n ∷ []) ∙ ap (λ ys. joined n ++ ys) (append-nil (g n))

  pub length-suc : (n : ℕ) → length (joined (n + 1)) ≡ length (joined n) + length (g n)
  length-suc n =
      let e : n + 1 ≡ suc n = omega arith in
      rw (e, joined-suc n) (length-append (joined n) (g n))

  length-more : (c k : ℕ) → length (joined c) ≤ length (joined (k + c))
  length-more c zero = let e : 0 + c ≡ c = omega arith in rw e (omega arith)
  length-more c (suc k) =
      let less = length-more c k in
      let e : suc k + c ≡ k + c + 1 = omega arith in
      rw (e, length-suc (k + c)) (omega arith)

  pub length-up : (c n : ℕ) → c ≤ n → length (joined c) ≤ length (joined n)
  length-up c n h = let e : n - c + c ≡ n = omega arith in rw e at (length-more c (n - c))

  -- the list of c ends where that of a greater number begins, or before
  pub length-past : (c n : ℕ) → c < n → length (joined c) + length (g c) ≤ length (joined n)
  length-past c n h = let up = length-up (c + 1) n (omega arith) in let e = length-suc c in omega arith

  -- an element stands in the list of a number, behind the lists before it
  pub record Owner (n k : ℕ) (x : A) : Type 0 where
    pub number : ℕ
    pub place : ℕ
    pub below : number < n
    pub here : slice_get (g number) place ≡ Some x
    pub is : k ≡ length (joined number) + place

  pub owner : (n k : ℕ) (x : A) → slice_get (joined n) k ≡ Some x → Owner n k x
  owner zero k x e = absurd (nothing_in_nil k x (rw joined-zero at e))
  owner (suc n) k x e =
      let both : slice_get (joined n ++ g n) k ≡ Some x = rw (joined-suc n) at e in
      elim (cases_lt k (length (joined n))) [
        | inl lt ↦ more (owner n k x (sym (slice_get-left (joined n) (g n) k lt) ∙ both))
        | inr ge ↦
            let i : length (joined n) + (k - length (joined n)) ≡ k = omega arith in
            let here : slice_get (g n) (k - length (joined n)) ≡ Some x = sym (slice_get-append (joined n) (g n) (k - length (joined n))) ∙ (rw i both) in
            record { number = n; place = k - length (joined n); below = omega arith; here = here; is = omega arith }
      ]
    where
      more : Owner n k x → Owner (suc n) k x
      more o = record { number = o.number; place = o.place; below = let b = o.below in omega arith; here = o.here; is = o.is }

  get-more : (c i k : ℕ) → i < length (joined c) → slice_get (joined (k + c)) i ≡ slice_get (joined c) i
  get-more c i zero h = let e : 0 + c ≡ c = omega arith in rw e refl
  get-more c i (suc k) h =
      let e : suc k + c ≡ suc (k + c) = omega arith in
      let long = length-more c k in
      rw (e, joined-suc (k + c)) (slice_get-left (joined (k + c)) (g (k + c)) i (omega arith) ∙ get-more c i k h)

  -- the elements of a number's list
  pub get-joined : (c n i : ℕ) → c < n → i < length (g c) → slice_get (joined n) (length (joined c) + i) ≡ slice_get (g c) i
  get-joined c n i lt inside =
      let e : n - suc c + suc c ≡ n = omega arith in
      let long : length (joined (suc c)) ≡ length (joined c) + length (g c) = rw (joined-suc c) (length-append (joined c) (g c)) in
      let more = get-more (suc c) (length (joined c) + i) (n - suc c) (omega arith) in
      (rw e at more) ∙ ap (λ xs. slice_get xs (length (joined c) + i)) (joined-suc c) ∙ slice_get-append (joined c) (g c) i
