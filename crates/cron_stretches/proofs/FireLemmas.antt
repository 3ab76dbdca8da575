-- The nearest fires around a second, of the fires of a rule in order.
use Rattle.std.proofs.Common.{◌≡◌, ℕ, ℤ, pos, ◌*ℤ◌, ◌≤ℤ◌, ◌<ℤ◌, Bool, true, false, List, [], ◌∷◌, ◌++◌, Option, Some, None, ◌⊎◌, inl, inr, refl, sym, ap, ◌∙◌, subst, arith}
use Rattle.std.specs.Prelude.{filter, reverse, MatchOption, ◌||◌}
use Rattle.std.specs.List.{list_any}
use Rattle.std.proofs.lemmas.Int.{by_lt_z}
use Rattle.std.proofs.lemmas.List.{reverse-append, reverse-reverse}
use Rattle.jiff_core.proofs.SignedLemmas.{signed_arith}
use Rattle.cron_clocks.proofs.Windows.{le_yes, lt_yes}
use Rattle.cron_time.proofs.ListLemmas.{among-cases, among-filter, among-first, among-join, among-map, among-none, among-rest, filter-among, join-among, map-among}
use Rattle.cron_seconds.specs.Rules.{AreInOrder, IsAmong, IsFirstOf, IsOrder, all_after, all_back, all_before, all_past, is_after, is_by}
use Rattle.cron_seconds.proofs.IntLemmas.{int_le-true, int_lt-true}
use Rattle.cron_stretches.specs.Fires.{IsLatest, IsNext, instants, second_of}

-- ---- seconds of instants

-- the second that an instant begins is its own
pub own_second : (n t : ℤ) → t ≡ n *ℤ pos 1_000_000_000 → second_of t ≡ n
own_second n t is = omega (arith, signed_arith)

-- ---- a list of which one passes a test

or_true : (a b : Bool) → b ≡ true → (a || b) ≡ true
or_true true b h = refl
or_true false b h = h

or_false : (a b : Bool) → (a || b) ≡ false → (a ≡ false) × (b ≡ false)
or_false true b h = absurd (cc)
or_false false b h = (refl, h)

module _ {A : Type 0} (p : A → Bool) where
  pub any-yes : (l : List A) (x : A) → IsAmong l x → p x ≡ true → list_any p l ≡ true
  any-yes [] x h is = absurd (among-none x h)
  any-yes (y ∷ l) x h is = elim (among-cases y l x h) [
    | inl same ↦ let here : p y ≡ true = ap p (sym same) ∙ is in rw here refl
    | inr there ↦ or_true (p y) (list_any p l) (any-yes l x there is)
  ]

  pub any-no : (l : List A) → ((x : A) → IsAmong l x → p x ≡ false) → list_any p l ≡ false
  any-no [] none = refl
  any-no (y ∷ l) none =
      let here : p y ≡ false = none y (among-first y l) in
      rw here (any-no l (λ x h. none x (among-rest y x l h)))

  pub any-no-each : (l : List A) (x : A) → list_any p l ≡ false → IsAmong l x → p x ≡ false
  any-no-each [] x none h = absurd (among-none x h)
  any-no-each (y ∷ l) x none h =
      let both = or_false (p y) (list_any p l) none in
      elim (among-cases y l x h) [
        | inl same ↦ ap p same ∙ both.0
        | inr there ↦ any-no-each l x both.1 there
      ]

  pub any-some : (l : List A) → list_any p l ≡ true → (x : A) × IsAmong l x × (p x ≡ true)
  any-some [] h = absurd (cc)
  any-some (y ∷ l) h = by_test (p y) (any-some l) refl h
    where
      by_test : (b : Bool) → (list_any p l ≡ true → (x : A) × IsAmong l x × (p x ≡ true)) → p y ≡ b → (b || list_any p l) ≡ true
          → (x : A) × IsAmong (y ∷ l) x × (p x ≡ true)
      by_test true below is h = (y, among-first y l, is)
      by_test false below is h = let (x, there, passes) = below h in (x, among-rest y x l there, passes)

-- ---- the nearest fires

module _ {A : Type 0} (at : A → ℤ) (is_past : A → A → Bool) (l : List A) (are : AreInOrder at is_past l) (t ns : ℤ) (is : ns ≡ t *ℤ pos 1_000_000_000) where
  by_of : (f : A) → at f ≤ℤ t → is_by at ns f ≡ true
  by_of f le = le_yes (at f *ℤ pos 1_000_000_000) ns (omega (arith, signed_arith))

  of_by : (f : A) → is_by at ns f ≡ true → at f ≤ℤ t
  of_by f h = let le = int_le-true (at f *ℤ pos 1_000_000_000) ns h in omega (arith, signed_arith)

  after_of : (f : A) → t <ℤ at f → is_after at ns f ≡ true
  after_of f less = lt_yes ns (at f *ℤ pos 1_000_000_000) (omega (arith, signed_arith))

  of_after : (f : A) → is_after at ns f ≡ true → t <ℤ at f
  of_after f h = let less = int_lt-true ns (at f *ℤ pos 1_000_000_000) h in omega (arith, signed_arith)

  -- ---- the last one

  until : (f : A) → reverse (filter (is_by at ns) l) ≡ f ∷ reverse (filter (λ o. is_past o f) l) → filter (is_by at ns) l ≡ filter (λ o. is_past o f) l ++ f ∷ []
  until f e =
      sym (reverse-reverse (filter (is_by at ns) l))
      ∙ ap reverse e
      ∙ reverse-append (f ∷ []) (reverse (filter (λ o. is_past o f) l))
      ∙ ap (λ m. m ++ f ∷ []) (reverse-reverse (filter (λ o. is_past o f) l))

  last_is : (f : A) → filter (is_by at ns) l ≡ filter (λ o. is_past o f) l ++ f ∷ [] → IsLatest (instants at l) t (Some (at f))
  last_is f e =
      let here : IsAmong (filter (is_by at ns) l) f = subst (λ m. IsAmong m f) (sym e) (join-last f) in
      let both = among-filter (is_by at ns) l f here in
      (map-among at l f both.0, of_by f both.1, λ n one early. latest f both.0 e n one early)
    where
      join-last : (f : A) → IsAmong (filter (λ o. is_past o f) l ++ f ∷ []) f
      join-last f = join-among (filter (λ o. is_past o f) l) (f ∷ []) f (inr (among-first f []))

      latest : (f : A) → IsAmong l f → filter (is_by at ns) l ≡ filter (λ o. is_past o f) l ++ f ∷ [] → (n : ℤ) → IsAmong (instants at l) n → n ≤ℤ t → n ≤ℤ at f
      latest f there e n one early =
          let source = among-map at l n one in
          let q = source.of in
          let same : n ≡ at q = source.is in
          let by : is_by at ns q ≡ true = by_of q (omega (arith, signed_arith)) in
          let in_it : IsAmong (filter (λ o. is_past o f) l ++ f ∷ []) q = subst (λ m. IsAmong m q) e (filter-among (is_by at ns) l q source.there by) in
          elim (among-join (filter (λ o. is_past o f) l) (f ∷ []) q in_it) [
            | inl before ↦
                let past = among-filter (λ o. is_past o f) l q before in
                let le = are.keep_up q f past.0 there past.1 in omega (arith, signed_arith)
            | inr last ↦ elim (among-cases f [] q last) [
              | inl one ↦ let equal : at q ≡ at f = ap at one in omega (arith, signed_arith)
              | inr none ↦ absurd (among-none q none)
            ]
          ]

  none_by : reverse (filter (is_by at ns) l) ≡ [] → IsLatest (instants at l) t None
  none_by e n one =
      let source = among-map at l n one in
      let q = source.of in
      let same : n ≡ at q = source.is in
      by_lt_z t n (λ late. late)
      (λ early.
      let by : is_by at ns q ≡ true = by_of q (omega (arith, signed_arith)) in
      let nothing : filter (is_by at ns) l ≡ [] = sym (reverse-reverse (filter (is_by at ns) l)) ∙ ap reverse e in
      absurd (among-none q (subst (λ m. IsAmong m q) nothing (filter-among (is_by at ns) l q source.there by))))

  pub last-none : IsFirstOf (all_back at l ns) (all_before is_past l) None → IsLatest (instants at l) t None
  last-none h = none_by h

  pub last-some : (f : A) → IsFirstOf (all_back at l ns) (all_before is_past l) (Some f) → IsLatest (instants at l) t (Some (at f))
  last-some f h = last_is f (until f h)

  -- ---- the next one

  pub next-none : IsFirstOf (all_after at l ns) (all_past is_past l) None → IsNext (instants at l) t None
  next-none e n one =
      let source = among-map at l n one in
      let q = source.of in
      let same : n ≡ at q = source.is in
      by_lt_z t n
      (λ late.
      let after : is_after at ns q ≡ true = after_of q (omega (arith, signed_arith)) in
      absurd (among-none q (subst (λ m. IsAmong m q) e (filter-among (is_after at ns) l q source.there after))))
      (λ early. early)

  pub next-some : (f : A) → IsFirstOf (all_after at l ns) (all_past is_past l) (Some f) → IsNext (instants at l) t (Some (at f))
  next-some f e =
      let here : IsAmong (filter (is_after at ns) l) f = subst (λ m. IsAmong m f) (sym e) (among-first f (filter (is_past f) l)) in
      let both = among-filter (is_after at ns) l f here in
      (map-among at l f both.0, of_after f both.1, λ n one late. earliest both.0 n one late)
    where
      earliest : IsAmong l f → (n : ℤ) → IsAmong (instants at l) n → t <ℤ n → at f ≤ℤ n
      earliest there n one late =
          let source = among-map at l n one in
          let q = source.of in
          let same : n ≡ at q = source.is in
          let after : is_after at ns q ≡ true = after_of q (omega (arith, signed_arith)) in
          let in_it : IsAmong (f ∷ filter (is_past f) l) q = subst (λ m. IsAmong m q) e (filter-among (is_after at ns) l q source.there after) in
          elim (among-cases f (filter (is_past f) l) q in_it) [
            | inl one ↦ let equal : at q ≡ at f = ap at one in omega (arith, signed_arith)
            | inr later ↦
                let past = among-filter (is_past f) l q later in
                let le = are.keep_up f q there past.0 past.1 in omega (arith, signed_arith)
          ]
