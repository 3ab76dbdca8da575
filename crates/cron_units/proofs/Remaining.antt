-- What iterators have left, as taken places.
use Rattle.std.proofs.Common.{◌≡◌, ℕ, ◌+◌, ◌-◌, ◌^◌, ◌<◌, ◌≤◌, Bool, true, false, ◌&&◌, not, cond, List, [], ◌∷◌, ◌++◌, refl, sym, ap, ◌∙◌, arith, zero, suc, inl, inr}
use Rattle.std.specs.Prelude.{filter, nat_le, nat_lt, nat_eq}
use Rattle.std.specs.List.{range_with_len}
use Rattle.std.specs.declared.ops.Bound.{Bound}
use Rattle.std.proofs.lemmas.Bool.{cases_eq, eq-eqb, ne_eqb, and_parts, and_right}
use Rattle.cron_units.specs.Bounds.{is_from, is_up_to, is_within}
use Rattle.cron_units.specs.Units.{TimeUnit}
use Rattle.cron_units.specs.Places.{listed, placed, NonePast}
use Rattle.cron_units.proofs.SetLemmas.{filter_same_in, filter_none}

filter_none_in : (p : ℕ → Bool) (a n : ℕ) → ((x : ℕ) → a ≤ x → x < a + n → p x ≡ false) → filter p (range_with_len a n) ≡ []
filter_none_in p a n none = filter_same_in p (λ x. false) a n none ∙ filter_none (λ x. false) (range_with_len a n) (λ x. refl)

cond_false : (b : Bool) (xs ys : List ℕ) → b ≡ false → cond b xs ys ≡ ys
cond_false b xs ys e = ap (λ (t : Bool). cond t xs ys) e

cond_true : (b : Bool) (xs ys : List ℕ) → b ≡ true → cond b xs ys ≡ xs
cond_true b xs ys e = ap (λ (t : Bool). cond t xs ys) e

-- The first number at which a test is true comes first.
pub filter_first : (p r : ℕ → Bool) (a n m : ℕ) → a ≤ m → m < a + n → p m ≡ true → ((x : ℕ) → a ≤ x → x < m → p x ≡ false)
    → ((x : ℕ) → a ≤ x → r x ≡ (not (nat_eq x m) && p x)) → filter p (range_with_len a n) ≡ m ∷ filter r (range_with_len a n)
filter_first p r a zero m l g here before others = absurd (omega arith)
filter_first p r a (suc n) m l g here before others =
    let xs : List ℕ = filter p (range_with_len (a + 1) n) in
    let ys : List ℕ = filter r (range_with_len (a + 1) n) in
    elim (cases_eq a m) [
      | inl e ↦
          let tails : xs ≡ ys = filter_same_in p r (a + 1) n
          (λ x h _. sym (others x (omega arith) ∙ ap (λ (t : Bool). not t && p x) (ne_eqb x m (λ i. omega arith)))) in
          let gone : r a ≡ false = others a (omega arith) ∙ ap (λ (t : Bool). not t && p a) (eq-eqb a m e) in
          cond_true (p a) (a ∷ xs) xs (ap p e ∙ here) ∙ (ap (λ (k : ℕ). k ∷ xs) e
          ∙ (ap (λ (zs : List ℕ). m ∷ zs) (tails ∙ sym (cond_false (r a) (a ∷ ys) ys gone))))
      | inr d ↦
          let none : p a ≡ false = before a (omega arith) (omega (arith, d)) in
          let gone : r a ≡ false = others a (omega arith) ∙ (ap (λ (t : Bool). not (nat_eq a m) && t) none ∙ and_right (not (nat_eq a m)) false refl) in
          cond_false (p a) (a ∷ xs) xs none
          ∙ (filter_first p r (a + 1) n m (omega (arith, d)) (omega arith) here (λ x h i. before x (omega arith) i) (λ x h. others x (omega arith))
          ∙ ap (λ (zs : List ℕ). m ∷ zs) (sym (cond_false (r a) (a ∷ ys) ys gone)))
    ]

cond_push : (b c : Bool) (a m : ℕ) (xs ys : List ℕ) → b ≡ c → xs ≡ ys ++ m ∷ [] → cond b (a ∷ xs) xs ≡ cond c (a ∷ ys) ys ++ m ∷ []
cond_push true c a m xs ys e h = rw (← e) (ap (λ (zs : List ℕ). a ∷ zs) h)
cond_push false c a m xs ys e h = rw (← e) h

-- The last number at which a test is true comes last.
filter_last : (p r : ℕ → Bool) (a n m : ℕ) → a ≤ m → m < a + n → p m ≡ true → ((x : ℕ) → m < x → p x ≡ false)
    → ((x : ℕ) → a ≤ x → r x ≡ (not (nat_eq x m) && p x)) → filter p (range_with_len a n) ≡ filter r (range_with_len a n) ++ m ∷ []
filter_last p r a zero m l g here after others = absurd (omega arith)
filter_last p r a (suc n) m l g here after others =
    let xs : List ℕ = filter p (range_with_len (a + 1) n) in
    let ys : List ℕ = filter r (range_with_len (a + 1) n) in
    elim (cases_eq a m) [
      | inl e ↦
          let none : xs ≡ [] = filter_none_in p (a + 1) n (λ x h _. after x (omega arith)) in
          let none_left : ys ≡ [] = filter_none_in r (a + 1) n (λ x h _. others x (omega arith)
          ∙ (ap (λ (t : Bool). not (nat_eq x m) && t) (after x (omega arith)) ∙ and_right (not (nat_eq x m)) false refl)) in
          let gone : r a ≡ false = others a (omega arith) ∙ ap (λ (t : Bool). not t && p a) (eq-eqb a m e) in
          cond_true (p a) (a ∷ xs) xs (ap p e ∙ here) ∙ (ap (λ (zs : List ℕ). a ∷ zs) none ∙ (ap (λ (k : ℕ). k ∷ []) e
          ∙ ap (λ (zs : List ℕ). zs ++ m ∷ []) (sym (cond_false (r a) (a ∷ ys) ys gone ∙ none_left))))
      | inr d ↦
          let kept : p a ≡ r a = sym (others a (omega arith) ∙ ap (λ (t : Bool). not t && p a) (ne_eqb a m d)) in
          cond_push (p a) (r a) a m xs ys kept (filter_last p r (a + 1) n m (omega (arith, d)) (omega arith) here after (λ x h. others x (omega arith)))
    ]

same_place : (least x k : ℕ) → least ≤ x → nat_eq (x - least) k ≡ nat_eq x (least + k)
same_place least x k l = elim (cases_eq (x - least) k) [
  | inl e ↦ rw (eq-eqb (x - least) k e, eq-eqb x (least + k) (omega arith)) refl
  | inr d ↦ rw (ne_eqb (x - least) k d, ne_eqb x (least + k) (λ e. d (omega arith))) refl
]

back : (least k : ℕ) → least + k - least ≡ k
back least k = omega arith

without : (taken left : ℕ → Bool) (least k : ℕ) → ((j : ℕ) → left j ≡ (not (nat_eq j k) && taken j)) → (x : ℕ) → least ≤ x
    → left (x - least) ≡ (not (nat_eq x (least + k)) && taken (x - least))
without taken left least k bits x l =
    bits (x - least) ∙ ap (λ (t : Bool). not t && taken (x - least)) (same_place least x k l)

-- What is left was taken.
pub left_within : (least : ℕ) (taken left : ℕ → Bool) (k : ℕ) → ((j : ℕ) → taken j ≡ true → least + j < 2 ^ 32)
    → ((j : ℕ) → left j ≡ (not (nat_eq j k) && taken j)) → (j : ℕ) → left j ≡ true → least + j < 2 ^ 32
left_within least taken left k within bits j h =
    within j (and_parts (not (nat_eq j k)) (taken j) (sym (bits j) ∙ h)).1

pub listed_first : (least size : ℕ) (taken left : ℕ → Bool) (xs : List ℕ) (k : ℕ) → listed least size taken ≡ xs → k < size → taken k ≡ true
    → ((j : ℕ) → j < k → taken j ≡ false) → ((j : ℕ) → left j ≡ (not (nat_eq j k) && taken j)) → xs ≡ (least + k) ∷ listed least size left
unfolding listed
listed_first least size taken left xs k is l here before bits =
    sym is ∙ filter_first (λ x. taken (x - least)) (λ x. left (x - least)) least size (least + k) (omega arith) (omega arith) (ap taken (back least k) ∙ here)
    (λ x g h. before (x - least) (omega arith)) (without taken left least k bits)

pub listed_last : (least size : ℕ) (taken left : ℕ → Bool) (xs : List ℕ) (k : ℕ) → listed least size taken ≡ xs → k < size → taken k ≡ true
    → ((j : ℕ) → k < j → taken j ≡ false) → ((j : ℕ) → left j ≡ (not (nat_eq j k) && taken j)) → xs ≡ listed least size left ++ (least + k) ∷ []
unfolding listed
listed_last least size taken left xs k is l here after bits =
    sym is ∙ filter_last (λ x. taken (x - least)) (λ x. left (x - least)) least size (least + k) (omega arith) (omega arith) (ap taken (back least k) ∙ here)
    (λ x h. after (x - least) (omega arith)) (without taken left least k bits)

pub listed_none : (least size : ℕ) (taken : ℕ → Bool) (xs : List ℕ) → listed least size taken ≡ xs → ((j : ℕ) → taken j ≡ false) → xs ≡ []
unfolding listed
listed_none least size taken xs is none = sym is ∙ filter_none_in (λ x. taken (x - least)) least size (λ x l g. none (x - least))

twice_kept : (b : Bool) (x : ℕ) (ys zs : List ℕ) → ys ≡ zs → cond b (x ∷ ys) ys ≡ cond (b && true) (x ∷ zs) zs
twice_kept true x ys zs h = ap (λ (ws : List ℕ). x ∷ ws) h
twice_kept false x ys zs h = h

twice : (p : ℕ → Bool) (c : Bool) (x : ℕ) (ys zs : List ℕ) → filter p ys ≡ zs → filter p (cond c (x ∷ ys) ys) ≡ cond (p x && c) (x ∷ zs) zs
twice p true x ys zs h = twice_kept (p x) x (filter p ys) zs h
twice p false x ys zs h = h ∙ sym (cond_false (p x && false) (x ∷ zs) zs (and_right (p x) false refl))

filter_twice : (p r : ℕ → Bool) (xs : List ℕ) → filter p (filter r xs) ≡ filter (λ x. p x && r x) xs
filter_twice p r [] = refl
filter_twice p r (x ∷ xs) = twice p (r x) x (filter r xs) (filter (λ y. p y && r y) xs) (filter_twice p r xs)

turned : (a b c : Bool) → (a && (b && c)) ≡ ((b && a) && c)
turned true true c = refl
turned true false c = refl
turned false true c = refl
turned false false c = refl

-- What bounds leave.
pub listed_within : (least size from end : ℕ) (first last : Bound ℕ) (taken later left : ℕ → Bool) (xs : List ℕ) → listed least size taken ≡ xs
    → ((k : ℕ) → k < size → nat_le from k ≡ is_from first (least + k)) → ((k : ℕ) → k < size → nat_lt k end ≡ is_up_to last (least + k))
    → ((k : ℕ) → later k ≡ (nat_le from k && taken k)) → ((k : ℕ) → left k ≡ (nat_lt k end && later k))
    → listed least size left ≡ filter (is_within first last) xs
unfolding listed
listed_within least size from end first last taken later left xs is starts ends bits more =
    sym (ap (λ (ys : List ℕ). filter (is_within first last) ys) (sym is)
    ∙ (filter_twice (is_within first last) (λ x. taken (x - least)) (range_with_len least size)
    ∙ filter_same_in (λ x. is_within first last x && taken (x - least)) (λ x. left (x - least)) least size
    (λ x l g.
    let there : least + (x - least) ≡ x = omega arith in
    let within : x - least < size = omega arith in
    sym (more (x - least) ∙ (ap (λ (t : Bool). nat_lt (x - least) end && t) (bits (x - least))
    ∙ (ap (λ (t : Bool). t && (nat_le from (x - least) && taken (x - least))) (ends (x - least) within ∙ ap (is_up_to last) there)
    ∙ (ap (λ (t : Bool). is_up_to last x && (t && taken (x - least))) (starts (x - least) within ∙ ap (is_from first) there)
    ∙ turned (is_up_to last x) (is_from first x) (taken (x - least)))))))))

-- ---- the places of a unit, among as many as any unit takes

filter_grow : (p : ℕ → Bool) (a n j : ℕ) → ((x : ℕ) → a + n ≤ x → p x ≡ false) → filter p (range_with_len a (n + j)) ≡ filter p (range_with_len a n)
filter_grow p a zero j none =
    let nothing : 0 + j ≡ j = omega arith in
    ap (λ (m : ℕ). filter p (range_with_len a m)) nothing ∙ filter_none_in p a j (λ x l g. none x (omega arith))
filter_grow p a (suc n) j none =
    let more : suc n + j ≡ suc (n + j) = omega arith in
    ap (λ (m : ℕ). filter p (range_with_len a m)) more ∙ ap (λ (xs : List ℕ). cond (p a) (a ∷ xs) xs) (filter_grow p (a + 1) n j (λ x l. none x (omega arith)))

pub placed_wide : (u : TimeUnit) (taken wide : ℕ → Bool) (xs : List ℕ) (least size : ℕ) → u.least ≤ u.greatest → NonePast u taken
    → u.greatest < u.least + size → placed u taken ≡ xs → least ≡ u.least → ((k : ℕ) → k < size → wide k ≡ taken k) → listed least size wide ≡ xs
unfolding listed
placed_wide u taken wide xs least size ordered none fits is e same =
    let n : ℕ = u.greatest + 1 - u.least in
    let split : size ≡ n + (size - n) = omega arith in
    ap (λ (a : ℕ). filter (λ x. wide (x - a)) (range_with_len a size)) e
    ∙ (filter_same_in (λ x. wide (x - u.least)) (λ x. taken (x - u.least)) u.least size (λ x l g. same (x - u.least) (omega arith))
    ∙ (ap (λ (m : ℕ). filter (λ x. taken (x - u.least)) (range_with_len u.least m)) split
    ∙ (filter_grow (λ x. taken (x - u.least)) u.least n (size - n) (λ x l. none (x - u.least) (omega arith)) ∙ is)))
