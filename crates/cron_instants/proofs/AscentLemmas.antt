-- Lists of readings in the order of their instants.
use Rattle.std.proofs.Common.{◌≡◌, ℕ, suc, Bool, true, false, cond, List, [], ◌∷◌, Some, ◌⊎◌, inl, inr, refl, sym, ap, ◌∙◌, arith}
use Rattle.std.specs.Prelude.{slice_get}
use Rattle.jiff_core.proofs.SignedLemmas.{signed_arith}
use Rattle.cron_instants.proofs.AgreementLemmas.{same_offset, same_reading}
use Rattle.cron_moments.specs.Readings.{Reading, instant}
use Rattle.cron_time.proofs.ListLemmas.{among-cases, among-none, among-rest}
use Rattle.cron_units.specs.declared.way.Way.TheVariants.{Ahead}
use Rattle.cron_instants.specs.Fires.{insert, earliest_first}
use Rattle.cron_seconds.specs.Rules.{IsAmong, IsOrder}
use Rattle.cron_instants.specs.Instants.{Ascends}
use Rattle.cron_instants.specs.Order.{is_earlier}
use Rattle.cron_instants.proofs.OrderLemmas.{before-false, before-not_shared, before-through, nearer-not_back}

-- ---- the order

pub earlier-not_back : (a b : Reading) → is_earlier a b ≡ true → is_earlier b a ≡ false
earlier-not_back a b h = nearer-not_back Ahead a b h

pub earlier-not_itself : (a : Reading) → is_earlier a a ≡ false
earlier-not_itself a = before-not_shared (instant a) a.second (instant a) a.second refl (omega arith)

pub earlier-through : (a b c : Reading) → is_earlier a b ≡ true → is_earlier b c ≡ true → is_earlier a c ≡ true
earlier-through a b c h g = before-through (instant a) (instant b) (instant c) a.second b.second c.second h g

alike_by : (a b : Reading) → instant a ≡ instant b → a.second ≡ b.second → a ≡ b
alike_by a b e f =
    let offsets : a.offset.seconds ≡ b.offset.seconds = omega (arith, signed_arith) in
    same_reading a b f (same_offset a.offset b.offset offsets)

-- of two readings neither of which is earlier there is one
pub neither-earlier : (a b : Reading) → is_earlier a b ≡ false → is_earlier b a ≡ false → a ≡ b
neither-earlier a b h g =
    elim (before-false (instant a) a.second (instant b) b.second h) [
      | inl less ↦ elim (before-false (instant b) b.second (instant a) a.second g) [
        | inl more ↦ absurd (omega (arith, signed_arith))
        | inr same ↦ let equal = same.0 in absurd (omega (arith, signed_arith))
      ]
      | inr same ↦ let equal = same.0 in let low = same.1 in elim (before-false (instant b) b.second (instant a) a.second g) [
        | inl more ↦ absurd (omega (arith, signed_arith))
        | inr again ↦ let high = again.1 in alike_by a b equal (omega arith)
      ]
    ]

pub earlier-other : (a b : Reading) → is_earlier a b ≡ false → (a ≡ b → ⊥) → is_earlier b a ≡ true
earlier-other a b h apart = by_test (is_earlier b a) refl
  where
    by_test : (t : Bool) → is_earlier b a ≡ t → t ≡ true
    by_test true is = refl
    by_test false is = absurd (apart (neither-earlier a b h is))

-- no reading stands in the list twice
abbrev pub StandOnce : List Reading → Type 0
StandOnce [] = Unit {0}
StandOnce (r ∷ l) = (IsAmong l r → ⊥) × StandOnce l

pub once-of : (l : List Reading) → ((i j : ℕ) (x : Reading) → slice_get l i ≡ Some x → slice_get l j ≡ Some x → i ≡ j) → StandOnce l
once-of [] once = tt
once-of (r ∷ l) once = (
  λ h. let twice : 0 ≡ suc h.0 = once 0 (suc h.0) r refl h.1 in omega arith,
  once-of l (λ i j x e f. let same : suc i ≡ suc j = once (suc i) (suc j) x e f in omega arith),
)

-- ---- a reading put in its place

among_insert-by : (r p : Reading) (l m : List Reading) (q : Reading) (b : Bool) → (IsAmong m q → (q ≡ r) ⊎ IsAmong l q)
    → IsAmong (cond b (r ∷ p ∷ l) (p ∷ m)) q → (q ≡ r) ⊎ IsAmong (p ∷ l) q
among_insert-by r p l m q true below h = among-cases r (p ∷ l) q h
among_insert-by r p l m q false below h = elim (among-cases p m q h) [
  | inl e ↦ inr (0, ap Some (sym e))
  | inr more ↦ elim (below more) [ inl e ↦ inl e | inr there ↦ inr (among-rest p q l there) ]
]

pub among-insert : (r : Reading) (l : List Reading) (q : Reading) → IsAmong (insert r l) q → (q ≡ r) ⊎ IsAmong l q
unfolding insert
among-insert r [] q h = among-cases r [] q h
among-insert r (p ∷ l) q h = among_insert-by r p l (insert r l) q (is_earlier r p) (among-insert r l q) h

insert_among-by : (r p : Reading) (l m : List Reading) (q : Reading) (b : Bool) → ((q ≡ r) ⊎ IsAmong l q → IsAmong m q)
    → (q ≡ r) ⊎ IsAmong (p ∷ l) q → IsAmong (cond b (r ∷ p ∷ l) (p ∷ m)) q
insert_among-by r p l m q true below (inl e) = (0, ap Some (sym e))
insert_among-by r p l m q true below (inr h) = among-rest r q (p ∷ l) h
insert_among-by r p l m q false below (inl e) = among-rest p q m (below (inl e))
insert_among-by r p l m q false below (inr h) = elim (among-cases p l q h) [
  | inl e ↦ (0, ap Some (sym e))
  | inr there ↦ among-rest p q m (below (inr there))
]

pub insert-among : (r : Reading) (l : List Reading) (q : Reading) → (q ≡ r) ⊎ IsAmong l q → IsAmong (insert r l) q
unfolding insert
insert-among r [] q (inl e) = (0, ap Some (sym e))
insert-among r [] q (inr h) = absurd (among-none q h)
insert-among r (p ∷ l) q h = insert_among-by r p l (insert r l) q (is_earlier r p) (insert-among r l q) h

ascends-insert : (r : Reading) (l : List Reading) → Ascends l → (IsAmong l r → ⊥) → Ascends (insert r l)
unfolding insert
ascends-insert r [] up new = (λ q h. absurd (among-none q h), tt)
ascends-insert r (p ∷ l) up new = by_test (is_earlier r p) (ascends-insert r l up.1 (λ h. new (among-rest p r l h))) refl
  where
    by_test : (b : Bool) → Ascends (insert r l) → is_earlier r p ≡ b → Ascends (cond b (r ∷ p ∷ l) (p ∷ insert r l))
    by_test true below is = (
      λ q h. elim (among-cases p l q h) [
        | inl e ↦ ap (is_earlier r) e ∙ is
        | inr there ↦ earlier-through r p q is (up.0 q there)
      ],
      up,
    )
    by_test false below is = (
      λ q h. elim (among-insert r l q h) [
        | inl e ↦ ap (is_earlier p) e ∙ earlier-other r p is (λ same. new (0, ap Some (sym same)))
        | inr there ↦ up.0 q there
      ],
      below,
    )

-- ---- a list in the order of instants

pub among-earliest_first : (l : List Reading) (q : Reading) → IsAmong (earliest_first l) q → IsAmong l q
unfolding earliest_first
among-earliest_first [] q h = h
among-earliest_first (r ∷ l) q h = elim (among-insert r (earliest_first l) q h) [
  | inl e ↦ (0, ap Some (sym e))
  | inr there ↦ among-rest r q l (among-earliest_first l q there)
]

pub earliest_first-among : (l : List Reading) (q : Reading) → IsAmong l q → IsAmong (earliest_first l) q
unfolding earliest_first
earliest_first-among [] q h = h
earliest_first-among (r ∷ l) q h = insert-among r (earliest_first l) q (elim (among-cases r l q h) [
  | inl e ↦ inl e
  | inr there ↦ inr (earliest_first-among l q there)
])

pub ascends-earliest_first : (l : List Reading) → StandOnce l → Ascends (earliest_first l)
unfolding earliest_first
ascends-earliest_first [] once = tt
ascends-earliest_first (r ∷ l) once =
    ascends-insert r (earliest_first l) (ascends-earliest_first l once.1) (λ h. once.0 (among-earliest_first l r h))

-- the order of a rule
pub earlier-order : IsOrder is_earlier
earlier-order = record { not_itself = earlier-not_itself; through = earlier-through }
