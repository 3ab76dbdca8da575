-- Lists in the order of a rule: what is left of one by its first, forwards and backwards; one that is cut; and stretches that meet.
use Rattle.std.proofs.Common.{◌≡◌, ℕ, zero, suc, ◌<◌, ◌≤◌, ℤ, ◌≤ℤ◌, Bool, true, false, cond, List, [], ◌∷◌, ◌++◌, Option, Some, None, inl, inr, refl, sym, ap, ◌∙◌, subst, arith}
use Rattle.std.specs.Prelude.{filter, reverse, slice_get, MatchOption}
use Rattle.std.proofs.lemmas.Bool.{cases_lt}
use Rattle.std.proofs.lemmas.List.{reverse-append}
use Rattle.jiff_core.proofs.SignedLemmas.{signed_arith}
use Rattle.cron_time.proofs.ListLemmas.{among-cases, among-filter, among-first, among-none, among-rest, filter-all, filter-none, filter-within, join-among}
use Rattle.cron_time.proofs.PlaceLemmas.{nothing_in_nil}
use Rattle.cron_seconds.specs.Rules.{AreInOrder, IsAmong, IsCut, IsGreatest, IsLeast, IsOrder, NeverDecreases, Rises}

not_both : (b : Bool) → b ≡ true → b ≡ false → ⊥
not_both b t f = cc

none_by : {A : Type 0} (p : A → Bool) (l : List A) → ((x : A) → IsAmong l x × (p x ≡ true) → ⊥) → (x : A) → IsAmong l x → p x ≡ false
none_by p l none x h = by_test (p x) refl
  where
    by_test : (b : Bool) → p x ≡ b → b ≡ false
    by_test true is = absurd (none x (h, is))
    by_test false is = refl

module _ {A : Type 0} (is_past : A → A → Bool) (order : IsOrder is_past) where
  pub not_back : (a b : A) → is_past a b ≡ true → is_past b a ≡ false
  not_back a b h = by_test (is_past b a) refl
    where
      by_test : (t : Bool) → is_past b a ≡ t → t ≡ false
      by_test true is = absurd (not_both (is_past a a) (order.through a b a h is) (order.not_itself a))
      by_test false is = refl

  -- by places
  pub rises-at : (l : List A) (i j : ℕ) (x y : A) → Rises is_past l → i < j → slice_get l i ≡ Some x → slice_get l j ≡ Some y → is_past x y ≡ true
  rises-at [] i j x y up less e f = absurd (nothing_in_nil i x e)
  rises-at (a ∷ l) i zero x y up less e f = absurd (omega arith)
  rises-at (a ∷ l) zero (suc j) x y up less e f = let same : a ≡ x = cc in ap (λ v. is_past v y) (sym same) ∙ up.0 y (j, f)
  rises-at (a ∷ l) (suc i) (suc j) x y up less e f = rises-at l i j x y up.1 (omega arith) e f

  once_by : (l : List A) (i j : ℕ) (x : A) → Rises is_past l → i < j → slice_get l i ≡ Some x → slice_get l j ≡ Some x → ⊥
  once_by l i j x up less e f = not_both (is_past x x) (rises-at l i j x x up less e f) (order.not_itself x)

  -- such a list has each element once
  pub once-rising : (l : List A) (i j : ℕ) (x : A) → Rises is_past l → slice_get l i ≡ Some x → slice_get l j ≡ Some x → i ≡ j
  once-rising l i j x up e f = elim (cases_lt i j) [
    | inl less ↦ absurd (once_by l i j x up less e f)
    | inr high ↦ elim (cases_lt j i) [
      | inl more ↦ absurd (once_by l j i x up more f e)
      | inr low ↦ omega arith
    ]
  ]

  rises_filter-by : (p : A → Bool) (x : A) (l : List A) (b : Bool) → Rises is_past (x ∷ l) → Rises is_past (filter p l)
      → Rises is_past (cond b (x ∷ filter p l) (filter p l))
  rises_filter-by p x l true up below = (λ y h. up.0 y (among-filter p l y h).0, below)
  rises_filter-by p x l false up below = below

  pub rises-filter : (p : A → Bool) (l : List A) → Rises is_past l → Rises is_past (filter p l)
  rises-filter p [] up = up
  rises-filter p (x ∷ l) up = rises_filter-by p x l (p x) up (rises-filter p l up.1)

  -- ---- what is left of a list, by its first

  -- what passes the test passes it from there on
  abbrev pub KeepsOn : (A → Bool) → List A → Type 0
  KeepsOn p l = (a b : A) → IsAmong l a → IsAmong l b → p a ≡ true → is_past a b ≡ true → p b ≡ true

  -- what passes such a test: the first, and those past it
  pub first-passing : (p : A → Bool) (l : List A) (r : A) → KeepsOn p l → Rises is_past l → IsAmong l r → p r ≡ true
      → ((q : A) → IsAmong l q → p q ≡ true → is_past q r ≡ false) → filter p l ≡ r ∷ filter (is_past r) l
  first-passing p [] r on up here passes least = absurd (among-none r here)
  first-passing p (x ∷ l) r on up here passes least =
      by_test (p x) (λ there. first-passing p l r (λ a b h k. on a b (among-rest x a l h) (among-rest x b l k)) up.1 there passes
      (λ q h t. least q (among-rest x q l h) t)) refl
    where
      at_first : p x ≡ true → r ≡ x
      at_first is = elim (among-cases x l r here) [
        | inl e ↦ e
        | inr there ↦ absurd (not_both (is_past x r) (up.0 r there) (least x (among-first x l) is))
      ]

      by_test : (b : Bool) → (IsAmong l r → filter p l ≡ r ∷ filter (is_past r) l) → p x ≡ b
          → cond b (x ∷ filter p l) (filter p l) ≡ r ∷ cond (is_past r x) (x ∷ filter (is_past r) l) (filter (is_past r) l)
      by_test true below is =
          let all : filter p l ≡ l = filter-all p l (λ q h. on x q (among-first x l) (among-rest x q l h) is (up.0 q h)) in
          let later : filter (is_past x) l ≡ l = filter-all (is_past x) l up.0 in
          let itself : is_past x x ≡ false = order.not_itself x in
          rw (at_first is, itself) (ap (λ m. x ∷ m) (all ∙ sym later))
      by_test false below is = elim (among-cases x l r here) [
        | inl e ↦ absurd (not_both (p x) (ap p (sym e) ∙ passes) is)
        | inr there ↦
            let fails : is_past r x ≡ false = not_back x r (up.0 r there) in
            rw fails (below there)
      ]

  pub first-left : (p : A → Bool) (l : List A) (answer : Option A) → KeepsOn p l → Rises is_past l
      → IsLeast is_past (λ r. IsAmong l r × (p r ≡ true)) answer
      → MatchOption answer (filter p l ≡ []) (λ r. filter p l ≡ r ∷ filter (is_past r) l)
  first-left p l None on up none = filter-none p l (none_by p l none)
  first-left p l (Some r) on up found = first-passing p l r on up found.0.0 found.0.1 (λ q h t. found.1 q (h, t))

  -- ---- and backwards

  -- what passes the test passes it up to there
  abbrev pub KeepsBack : (A → Bool) → List A → Type 0
  KeepsBack p l = (a b : A) → IsAmong l a → IsAmong l b → p b ≡ true → is_past a b ≡ true → p a ≡ true

  -- what passes such a test: those that the last one comes past, and that one
  last-passing : (p : A → Bool) (l : List A) (r : A) → KeepsBack p l → Rises is_past l → IsAmong l r → p r ≡ true
      → ((q : A) → IsAmong l q → p q ≡ true → is_past r q ≡ false) → filter p l ≡ filter (λ q. is_past q r) l ++ r ∷ []
  last-passing p [] r back up here passes greatest = absurd (among-none r here)
  last-passing p (x ∷ l) r back up here passes greatest = elim (among-cases x l r here) [
    | inl same ↦ at_first same
    | inr there ↦
        behind there
        (last-passing p l r (λ a b h k. back a b (among-rest x a l h) (among-rest x b l k)) up.1 there passes (λ q h. greatest q (among-rest x q l h)))
  ]
    where
      fails_behind : r ≡ x → (q : A) → IsAmong l q → (b : Bool) → p q ≡ b → p q ≡ false
      fails_behind same q h true is =
          absurd (not_both (is_past r q) (ap (λ v. is_past v q) same ∙ up.0 q h) (greatest q (among-rest x q l h) is))
      fails_behind same q h false is = is

      at_first : r ≡ x → cond (p x) (x ∷ filter p l) (filter p l) ≡ cond (is_past x r) (x ∷ filter (λ q. is_past q r) l) (filter (λ q. is_past q r) l) ++ r ∷ []
      at_first same =
          let is : p x ≡ true = ap p (sym same) ∙ passes in
          let none : filter p l ≡ [] = filter-none p l (λ q h. fails_behind same q h (p q) refl) in
          let first : is_past x r ≡ false = ap (is_past x) same ∙ order.not_itself x in
          let nothing : filter (λ q. is_past q r) l ≡ [] = filter-none (λ q. is_past q r) l (λ q h. ap (is_past q) same ∙ not_back x q (up.0 q h)) in
          rw (is, first, none, nothing) (ap (λ v. v ∷ []) (sym same))

      behind : IsAmong l r → filter p l ≡ filter (λ q. is_past q r) l ++ r ∷ []
          → cond (p x) (x ∷ filter p l) (filter p l) ≡ cond (is_past x r) (x ∷ filter (λ q. is_past q r) l) (filter (λ q. is_past q r) l) ++ r ∷ []
      behind there rest =
          let before : is_past x r ≡ true = up.0 r there in
          let is : p x ≡ true = back x r (among-first x l) here passes before in
          rw (is, before) (ap (λ m. x ∷ m) rest)

  pub last-left : (p : A → Bool) (l : List A) (answer : Option A) → KeepsBack p l → Rises is_past l
      → IsGreatest is_past (λ r. IsAmong l r × (p r ≡ true)) answer
      → MatchOption answer (reverse (filter p l) ≡ []) (λ r. reverse (filter p l) ≡ r ∷ reverse (filter (λ q. is_past q r) l))
  last-left p l None back up none = ap reverse (filter-none p l (none_by p l none))
  last-left p l (Some r) back up found =
      ap reverse (last-passing p l r back up found.0.0 found.0.1 (λ q h t. found.1 q (h, t)))
      ∙ reverse-append (filter (λ q. is_past q r) l) (r ∷ [])

  -- ---- a list that is cut

  pub cut-behind : (done : List A) (r : A) (rest : List A) → Rises is_past (done ++ r ∷ rest) → filter (is_past r) (done ++ r ∷ rest) ≡ rest
  cut-behind [] r rest up =
      let itself : is_past r r ≡ false = order.not_itself r in rw itself (filter-all (is_past r) rest up.0)
  cut-behind (x ∷ done) r rest up =
      let fails : is_past r x ≡ false = not_back x r (up.0 r (join-among done (r ∷ rest) r (inr (among-first r rest)))) in
      rw fails (cut-behind done r rest up.1)

  among-cut : (done : List A) (r : A) (rest : List A) → IsAmong (done ++ r ∷ rest) r
  among-cut done r rest = join-among done (r ∷ rest) r (inr (among-first r rest))

  pub among_list-cut : (l done : List A) (r : A) (rest : List A) → l ≡ done ++ r ∷ rest → IsAmong l r
  among_list-cut l done r rest e = let h = among-cut done r rest in (h.0, ap (λ m. slice_get m h.0) e ∙ h.1)

  -- behind an element of what passes such a test come those past it
  pub cut-passing : (p : A → Bool) (l : List A) → KeepsOn p l → Rises is_past l → IsCut (filter p l) (λ r. filter (is_past r) l)
  cut-passing p l on up done r rest e =
      let both = among-filter p l r (among_list-cut (filter p l) done r rest e) in
      let cut_up : Rises is_past (done ++ r ∷ rest) = subst (Rises is_past) e (rises-filter p l up) in
      sym (filter-within p (is_past r) l (λ q h t. on r q both.0 h both.1 t))
      ∙ ap (filter (is_past r)) e
      ∙ cut-behind done r rest cut_up

-- ---- instants

pub never-decreases : {A : Type 0} (at : A → ℤ) (is_past : A → A → Bool) (order : IsOrder is_past) (l : List A) → AreInOrder at is_past l → NeverDecreases at l
never-decreases at is_past order l are i j x y le e f = elim (cases_lt i j) [
  | inl less ↦ are.keep_up x y (i, e) (j, f) (rises-at is_past order l i j x y are.rise less e f)
  | inr high ↦
      let place : i ≡ j = omega arith in
      let same : Some x ≡ Some y = sym e ∙ ap (slice_get l) place ∙ f in
      let one : x ≡ y = cc in
      rw one (omega (arith, signed_arith))
]

-- a part of such a list is one
pub part-in_order : {A : Type 0} (at : A → ℤ) (is_past : A → A → Bool) → IsOrder is_past → (p : A → Bool) (l : List A) → AreInOrder at is_past l
    → AreInOrder at is_past (filter p l)
part-in_order at is_past order p l are = record {
  rise = rises-filter is_past order p l are.rise;
  keep_up = λ a b one other. are.keep_up a b (among-filter p l a one).0 (among-filter p l b other).0;
}
