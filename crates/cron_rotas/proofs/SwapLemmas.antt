-- Swaps between the seconds at which some begin or end.
use Rattle.std.proofs.Common.{◌≡◌, ℕ, zero, suc, ◌<◌, ◌+◌, ℤ, ◌≤ℤ◌, ◌<ℤ◌, Bool, true, false, cond, List, [], ◌∷◌, ◌++◌, Option, Some, None, ◌⊎◌, inl, inr, get_or, refl, sym, ap, ◌∙◌, subst, arith}
use Rattle.std.specs.Prelude.{int_le, int_lt, ◌&&◌, find, not, position, reverse, slice_get}
use Rattle.std.specs.List.{list_all, position_from}
use Rattle.std.specs.Option.{option_map}
use Rattle.std.proofs.lemmas.Bool.{cases_lt}
use Rattle.std.proofs.lemmas.Int.{ints, by_lt_z}
use Rattle.std.proofs.lemmas.Iterator.Adapters.{position_from-zero}
use Rattle.std.proofs.lemmas.Option.{get_or_from_slice_get}
use Rattle.std.proofs.lemmas.List.{reverse-append}
use Rattle.cron_clocks.proofs.Windows.{le_no, le_yes, lt_no, lt_yes}
use Rattle.cron_time.proofs.ListLemmas.{Among, among-cases, among-first, among-join, among-none, among-rest}
use Rattle.cron_rotas.specs.declared.swap.Swap.{Swap}
use Rattle.cron_rotas.specs.Edges.{IsNextEdge, NoEdgeOf}
use Rattle.cron_rotas.specs.Rotas.{holds_at, swapped}

find_alike : {A : Type 0} (p q : A → Bool) (l : List A) → ((x : A) → Among l x → p x ≡ q x) → find p l ≡ find q l
find_alike p q [] alike = refl
find_alike p q (x ∷ l) alike =
    ap (λ b. cond b (Some x) (find p l)) (alike x (among-first x l))
    ∙ ap (λ m. cond (q x) (Some x) m) (find_alike p q l (λ y h. alike y (among-rest x y l h)))

pub among-reverse : {A : Type 0} (l : List A) (x : A) → Among (reverse l) x → Among l x
among-reverse [] x h = h
among-reverse {A = A} (y ∷ l) x h = by_cases (among-reverse l x) (among-join (reverse l) (y ∷ []) x (subst_among (reverse-append (y ∷ []) l) h))
  where
    subst_among : {m n : List A} → m ≡ n → Among m x → Among n x
    subst_among e k = (k.0, ap (λ w. slice_get w k.0) (sym e) ∙ k.1)

    by_cases : (Among (reverse l) x → Among l x) → Among (reverse l) x ⊎ Among (y ∷ []) x → Among (y ∷ l) x
    by_cases below (inl before) = among-rest y x l (below before)
    by_cases below (inr last) = elim (among-cases y [] x last) [
      | inl same ↦ (0, ap Some (sym same))
      | inr none ↦ absurd (among-none x none)
    ]

-- no swap comes or goes
holds-alike : (s : Swap) (a end t : ℤ) → NoEdgeOf a end s → a ≤ℤ t → t <ℤ end → holds_at t s ≡ holds_at a s
holds-alike s a end t (first, second) low high = ap (λ b. b && int_lt t s.until) (from_alike first) ∙ ap (λ b. int_le s.from a && b) (until_alike second)
  where
    from_alike : (s.from ≤ℤ a) ⊎ (end ≤ℤ s.from) → int_le s.from t ≡ int_le s.from a
    from_alike (inl le) = le_yes s.from t (omega (arith, ints)) ∙ sym (le_yes s.from a le)
    from_alike (inr le) = le_no s.from t (omega (arith, ints)) ∙ sym (le_no s.from a (omega (arith, ints)))

    until_alike : (s.until ≤ℤ a) ⊎ (end ≤ℤ s.until) → int_lt t s.until ≡ int_lt a s.until
    until_alike (inl le) = lt_no t s.until (omega (arith, ints)) ∙ sym (lt_no a s.until le)
    until_alike (inr le) = lt_yes t s.until (omega (arith, ints)) ∙ sym (lt_yes a s.until (omega (arith, ints)))

pub swapped-alike : (swaps : List Swap) (a to end t : ℤ) → IsNextEdge swaps a to end → a ≤ℤ t → t <ℤ end → swapped swaps t ≡ swapped swaps a
swapped-alike swaps a to end t (later, within, none) low high =
    ap (option_map (λ s. s.person))
    (find_alike (holds_at t) (holds_at a) (reverse swaps)
    (λ s h. let there = among-reverse swaps s h in holds-alike s a end t (none there.0 s there.1) low high))

-- ---- one swap more

-- an end that no swap so far lies before, and an earlier one
pub nearer : (s : Swap) (a end earlier : ℤ) → earlier ≤ℤ end → NoEdgeOf a end s → NoEdgeOf a earlier s
nearer s a end earlier le (first, second) = (shorter first, shorter second)
  where
    shorter : {n : ℤ} → (n ≤ℤ a) ⊎ (end ≤ℤ n) → (n ≤ℤ a) ⊎ (earlier ≤ℤ n)
    shorter (inl before) = inl before
    shorter (inr past) = inr (omega (arith, ints))

-- both edges of one swap
pub edge-both : (f u a mid end : ℤ) → (f ≤ℤ a) ⊎ (mid ≤ℤ f) → end ≤ℤ mid → (u ≤ℤ a) ⊎ (end ≤ℤ u) → ((f ≤ℤ a) ⊎ (end ≤ℤ f)) × ((u ≤ℤ a) ⊎ (end ≤ℤ u))
edge-both f u a mid end (inl before) le other = (inl before, other)
edge-both f u a mid end (inr past) le other = (inr (omega (arith, ints)), other)

pub step-edge : (swaps : List Swap) (index k : ℕ) (d : Swap) (a end earlier : ℤ) → k < index + 1 → earlier ≤ℤ end
    → ((j : ℕ) (s : Swap) → j < index → slice_get swaps j ≡ Some s → NoEdgeOf a end s) → NoEdgeOf a earlier (get_or swaps index d)
    → (s : Swap) → slice_get swaps k ≡ Some s → NoEdgeOf a earlier s
step-edge swaps index k d a end earlier below le before here s get = elim (cases_lt k index) [
  | inl less ↦ nearer s a end earlier le (before k s less get)
  | inr last ↦
      let place : k ≡ index = omega arith in
      let get_here : slice_get swaps index ≡ Some s = ap (slice_get swaps) (sym place) ∙ get in
      subst (NoEdgeOf a earlier) (get_or_from_slice_get swaps index s d get_here) here
]

-- ---- no swap is wrong

pass_on : {A : Type 0} (p : A → Bool) (i : ℕ) (x : A) (l : List A) (b : Bool) → p x ≡ b → cond (not b) (Some i) (position_from (λ y. not (p y)) (i + 1) l) ≡ None
    → (position_from (λ y. not (p y)) (i + 1) l ≡ None → list_all p l ≡ true) → list_all p (x ∷ l) ≡ true
pass_on p i x l true is none rest = ap (λ b. b && list_all p l) is ∙ rest none
pass_on p i x l false is none rest = absurd (cc)

all_pass : {A : Type 0} (p : A → Bool) (i : ℕ) (l : List A) → position_from (λ x. not (p x)) i l ≡ None → list_all p l ≡ true
all_pass p i [] none = refl
all_pass p i (x ∷ l) none = pass_on p i x l (p x) refl none (all_pass p (i + 1) l)

-- where no place has an element that fails, all pass
pub none_fails : {A : Type 0} (p : A → Bool) (l : List A) → position (λ x. not (p x)) l ≡ None → list_all p l ≡ true
none_fails p l none = all_pass p 0 l (sym (position_from-zero (λ x. not (p x)) l) ∙ none)
