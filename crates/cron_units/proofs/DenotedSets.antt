-- The sets that items denote, one item joined after another.
use Rattle.std.proofs.Common.{◌≡◌, ◌⊎◌, ◌↔◌, ℕ, zero, suc, Bool, true, false, ◌||◌, inl, inr, Option, Some, None, Result, Ok, Err, List, [], ◌∷◌, ◌++◌, refl, sym, ap, ◌∙◌, subst, arith}
use Rattle.std.specs.List.{All, Any}
use Rattle.std.proofs.lemmas.Bool.{false≢true, cases_lt, or_cases, or_left, or_right}
use Rattle.std.proofs.lemmas.List.Elements.{All-nil, All-cons, All-head, All-tail, All-push}
use Rattle.cron_units.specs.Denotation.{IsBetween, LiesIn, MarksLastDay, Denotes, AddsItem}
use Rattle.cron_units.specs.Inner.ItemSteps.{Denoted, denoted_by, in_denoted, is_last_day, denoted_has, denoted_marks, first_refusal, refusal_of, in_items, items_mark, union_of}
use Rattle.cron_units.specs.ItemLaws.{IsRefusedOnce, ItemsAreRefusedOnce, DenoteOnce, AreRefused, ItemsAreDecided}
use Rattle.cron_units.specs.Items.{Item}
use Rattle.cron_units.specs.Refusals.{Refusal, IsRefusedFor, IsUnrefused, IsFirstRefusal}
use Rattle.cron_units.specs.Sets.{IsFilledOrMarked}
use Rattle.cron_units.proofs.SetLemmas.{contains_set, contains_before, contains_after, is_set_from, set_same, empty_is_set}
use Rattle.cron_units.specs.Units.{TimeUnit, FieldSet, IsUnit, IsSet, contains, set_of, with_mark}
use Rattle.cron_units.proofs.Denoting.{denoted, refused, refused_once, unrefused, Outcome, denotes, refuses, outcome}

-- ---- one of some

no_any : {X : Type 0} (P : X → Type 0) → Any P [] → ⊥
no_any P a = absurd (omega (arith, a.2))

any_first : {X : Type 0} (P : X → Type 0) (x : X) (xs : List X) → P x → Any P (x ∷ xs)
any_first P x xs p = (0, x, omega arith, refl, p)

any_later : {X : Type 0} (P : X → Type 0) (x : X) (xs : List X) → Any P xs → Any P (x ∷ xs)
any_later P x xs a = (suc a.0, a.1, omega (arith, a.2), a.3, a.4)

any_parts : {X : Type 0} (P : X → Type 0) (x : X) (xs : List X) → Any P (x ∷ xs) → P x ⊎ Any P xs
any_parts P x xs (zero, y, l, e, p) = inl (subst P (sym e) p)
any_parts P x xs (suc k, y, l, e, p) = inr (k, y, omega (arith, l), e, p)

later_apart : {X : Type 0} (P : X → Type 0) (x : X) (xs : List X) (y : X) → (Any P (xs ++ y ∷ []) → Any P xs ⊎ P y) → Any P (x ∷ (xs ++ y ∷ []))
    → Any P (x ∷ xs) ⊎ P y
later_apart P x xs y again a =
    elim (any_parts P x (xs ++ y ∷ []) a) [
      | inl p ↦ inl (any_first P x xs p)
      | inr b ↦ elim (again b) [ inl c ↦ inl (any_later P x xs c) | inr q ↦ inr q ]
    ]

later_joined : {X : Type 0} (P : X → Type 0) (x : X) (xs : List X) (y : X) → (Any P xs ⊎ P y → Any P (xs ++ y ∷ [])) → Any P (x ∷ xs) ⊎ P y
    → Any P (x ∷ (xs ++ y ∷ []))
later_joined P x xs y again (inl a) =
    elim (any_parts P x xs a) [
      | inl p ↦ any_first P x (xs ++ y ∷ []) p
      | inr b ↦ any_later P x (xs ++ y ∷ []) (again (inl b))
    ]
later_joined P x xs y again (inr q) = any_later P x (xs ++ y ∷ []) (again (inr q))

one_parted : {X : Type 0} (P : X → Type 0) (y : X) → Any P (y ∷ []) → Any P [] ⊎ P y
one_parted P y a = elim (any_parts P y [] a) [ inl p ↦ inr p | inr b ↦ absurd (no_any P b) ]

one_joined : {X : Type 0} (P : X → Type 0) (y : X) → Any P [] ⊎ P y → Any P (y ∷ [])
one_joined P y (inl a) = absurd (no_any P a)
one_joined P y (inr p) = any_first P y [] p

any_pushed : {X : Type 0} (P : X → Type 0) (xs : List X) (y : X) → Any P (xs ++ y ∷ []) ↔ (Any P xs ⊎ P y)
any_pushed P [] y = (one_parted P y, one_joined P y)
any_pushed P (x ∷ xs) y = (later_apart P x xs y (any_pushed P xs y).0, later_joined P x xs y (any_pushed P xs y).1)

-- ---- members

same_tests : (a b : Bool) → (a ≡ true → b ≡ true) → (b ≡ true → a ≡ true) → a ≡ b
same_tests true b f g = sym (f refl)
same_tests false true f g = g refl
same_tests false false f g = refl

-- a member of what passes a test is an ordinal of the unit, and passes it
member_passes : (u : TimeUnit) (p : ℕ → Bool) (x : ℕ) → IsUnit u → contains (set_of u p) x ≡ true → IsBetween u.least u.greatest x × (p x ≡ true)
member_passes u p x h e =
    elim (cases_lt x u.least) [
      | inl l ↦ absurd (false≢true (sym (contains_before u p x l) ∙ e))
      | inr low ↦ elim (cases_lt u.greatest x) [
        | inl l ↦ absurd (false≢true (sym (contains_after u p x h.ordered l) ∙ e))
        | inr high ↦ ((low, high), sym (contains_set u p x low high) ∙ e)
      ]
    ]

set_passes : (u : TimeUnit) (p : ℕ → Bool) (xs : List ℕ) (x : ℕ) → IsUnit u → xs ≡ set_of u p → contains xs x ≡ true
    → IsBetween u.least u.greatest x × (p x ≡ true)
set_passes u p xs x h s e = member_passes u p x h (ap (λ (ys : List ℕ). contains ys x) (sym s) ∙ e)

set_has : (u : TimeUnit) (p : ℕ → Bool) (xs : List ℕ) (x : ℕ) → xs ≡ set_of u p → IsBetween u.least u.greatest x → p x ≡ true → contains xs x ≡ true
set_has u p xs x s w e = ap (λ (ys : List ℕ). contains ys x) s ∙ (contains_set u p x w.0 w.1 ∙ e)

-- two sets with the same members are one
same_sets : (u : TimeUnit) (xs ys : List ℕ) → IsSet u xs → IsSet u ys → ((x : ℕ) → contains xs x ≡ true → contains ys x ≡ true)
    → ((x : ℕ) → contains ys x ≡ true → contains xs x ≡ true) → xs ≡ ys
same_sets u xs ys h k f g =
    h ∙ (set_same u (contains xs) (contains ys) (λ x _ _. same_tests (contains xs x) (contains ys x) (f x) (g x)) ∙ sym k)

-- ---- one item

-- what the code finds of an item, joined to a set
pub adds_item : (u : TimeUnit) (i : Item) (d : Denoted) (xs ys : List ℕ) (m n : Bool) → IsUnit u → denoted_by u i ≡ Ok d → IsSet u xs
    → ys ≡ set_of u (λ x. contains xs x || in_denoted d x) → n ≡ (m || is_last_day d) → AddsItem u i (with_mark xs m) (with_mark ys n)
adds_item u i d xs ys m n h e s k l =
    let is = denoted u i d h e in
    let test : ℕ → Bool = λ x. contains xs x || in_denoted d x in
    record {
      unrefused = unrefused u i d h e;
      is_set = is_set_from u test ys k;
      ordinals = λ x. (
        λ c. elim (or_cases (contains xs x) (in_denoted d x) (set_passes u test ys x h k c).1) [
          | inl o ↦ inl o
          | inr t ↦ inr ((is.lies x).1 t)
        ],
        λ o. elim o [
          | inl c ↦ set_has u test ys x k (set_passes u (contains xs) xs x h s c).0 (or_left (contains xs x) (in_denoted d x) c)
          | inr t ↦ set_has u test ys x k (is.within x t) (or_right (contains xs x) (in_denoted d x) ((is.lies x).0 t))
        ],
      );
      mark = (
        λ c. elim (or_cases m (is_last_day d) (sym l ∙ c)) [ inl o ↦ inl o | inr t ↦ inr (is.marks.1 t) ],
        λ o. elim o [ inl c ↦ l ∙ or_left m (is_last_day d) c | inr t ↦ l ∙ or_right m (is_last_day d) (is.marks.0 t) ],
      );
    }

-- ---- items

pub denotes_none : (u : TimeUnit) (xs : List ℕ) (m : Bool) → xs ≡ [] → m ≡ false → Denotes u [] (with_mark xs m)
denotes_none u xs m h e =
    record {
      unrefused = All-nil (IsUnrefused u);
      is_set = subst (IsSet u) (sym h) (empty_is_set u);
      ordinals = λ x. (λ c. absurd (false≢true (ap (λ (ys : List ℕ). contains ys x) (sym h) ∙ c)), λ a. absurd (no_any (λ i. LiesIn u i x) a));
      mark = (λ c. absurd (false≢true (sym e ∙ c)), λ a. absurd (no_any (MarksLastDay u) a));
    }

-- one item more
pub denotes_push : (u : TimeUnit) (is : List Item) (i : Item) (s t : FieldSet) → Denotes u is s → AddsItem u i s t → Denotes u (is ++ i ∷ []) t
denotes_push u is i s t d a =
    record {
      unrefused = All-push (IsUnrefused u) is i d.unrefused a.unrefused;
      is_set = a.is_set;
      ordinals = λ x. (
        λ c. elim ((a.ordinals x).0 c) [
          | inl o ↦ (any_pushed (λ j. LiesIn u j x) is i).1 (inl ((d.ordinals x).0 o))
          | inr l ↦ (any_pushed (λ j. LiesIn u j x) is i).1 (inr l)
        ],
        λ o. elim ((any_pushed (λ j. LiesIn u j x) is i).0 o) [
          | inl k ↦ (a.ordinals x).1 (inl ((d.ordinals x).1 k))
          | inr l ↦ (a.ordinals x).1 (inr l)
        ],
      );
      mark = (
        λ c. elim (a.mark.0 c) [
          | inl o ↦ (any_pushed (MarksLastDay u) is i).1 (inl (d.mark.0 o))
          | inr l ↦ (any_pushed (MarksLastDay u) is i).1 (inr l)
        ],
        λ o. elim ((any_pushed (MarksLastDay u) is i).0 o) [
          | inl k ↦ a.mark.1 (inl (d.mark.1 k))
          | inr l ↦ a.mark.1 (inr l)
        ],
      );
    }

same_fields : (s t : FieldSet) → s.ordinals ≡ t.ordinals → s.last_day ≡ t.last_day → s ≡ t
same_fields s t n m = rw (n, m) refl

-- Items denote one set at most.
pub denotes_once : (u : TimeUnit) (is : List Item) (s t : FieldSet) → Denotes u is s → Denotes u is t → s ≡ t
denotes_once u is s t d e =
    let there : (x : ℕ) → contains s.ordinals x ≡ true → contains t.ordinals x ≡ true = λ x c. (e.ordinals x).1 ((d.ordinals x).0 c) in
    let back : (x : ℕ) → contains t.ordinals x ≡ true → contains s.ordinals x ≡ true = λ x c. (d.ordinals x).1 ((e.ordinals x).0 c) in
    let mark = same_tests s.last_day t.last_day (λ c. e.mark.1 (d.mark.0 c)) (λ c. d.mark.1 (e.mark.0 c)) in
    same_fields s t (same_sets u s.ordinals t.ordinals d.is_set e.is_set there back) mark

-- Items denote something.
pub denotes_some : (u : TimeUnit) (is : List Item) (s : FieldSet) → IsUnit u → (is ≡ [] → ⊥) → Denotes u is s → IsFilledOrMarked u s
denotes_some u [] s h some d = absurd (some refl)
denotes_some u (i ∷ is) s h some d =
    record { is_set = d.is_set; nonempty = filled (outcome u i h) } where
      filled : Outcome u i → s.ordinals ≡ [] → s.last_day ≡ true
      filled (refuses r k) e = absurd (All-head (IsUnrefused u) i is d.unrefused r k)
      filled (denotes o f k) e = elim k.some [
        | inl t ↦ absurd (false≢true (ap (λ (ys : List ℕ). contains ys t.0) (sym e)
            ∙ (d.ordinals t.0).1 (any_first (λ j. LiesIn u j t.0) i is t.1)))
        | inr m ↦ d.mark.1 (any_first (MarksLastDay u) i is m)
      ]

-- ---- the first refusal

-- An unrefused item isn't the one.
first_once_from : (u : TimeUnit) (before before' : List Item) (i i' : Item) (after after' : List Item) (q r : Refusal) → IsUnit u
    → before ++ i ∷ after ≡ before' ++ i' ∷ after' → All (IsUnrefused u) before → All (IsUnrefused u) before' → IsRefusedFor u i q → IsRefusedFor u i' r → q ≡ r
first_once_from u [] [] i i' after after' q r h e f g j k =
    let same : i ≡ i' = cc in
    refused_once u i' q r h (subst (λ (x : Item). IsRefusedFor u x q) same j) k
first_once_from u [] (b' ∷ before') i i' after after' q r h e f g j k =
    let same : i ≡ b' = cc in
    absurd (All-head (IsUnrefused u) b' before' g q (subst (λ (x : Item). IsRefusedFor u x q) same j))
first_once_from u (b ∷ before) [] i i' after after' q r h e f g j k =
    let same : i' ≡ b = cc in
    absurd (All-head (IsUnrefused u) b before f r (subst (λ (x : Item). IsRefusedFor u x r) same k))
first_once_from u (b ∷ before) (b' ∷ before') i i' after after' q r h e f g j k =
    let rest : before ++ i ∷ after ≡ before' ++ i' ∷ after' = cc in
    first_once_from u before before' i i' after after' q r h rest (All-tail (IsUnrefused u) b before f) (All-tail (IsUnrefused u) b' before' g) j k

-- Items have one first refusal at most.
pub first_once : (u : TimeUnit) (is : List Item) (q r : Refusal) → IsUnit u → IsFirstRefusal u is q → IsFirstRefusal u is r → q ≡ r
first_once u is q r h f g =
    first_once_from u f.before g.before f.item g.item f.after g.after q r h (sym f.cut ∙ g.cut) f.unrefused g.unrefused f.refused g.refused

all_middle : {X : Type 0} (P : X → Type 0) (before : List X) (x : X) (after : List X) → All P (before ++ x ∷ after) → P x
all_middle P [] x after a = All-head P x after a
all_middle P (b ∷ before) x after a = all_middle P before x after (All-tail P b (before ++ x ∷ after) a)

-- Items of which one is refused denote nothing.
pub not_refused : (u : TimeUnit) (is : List Item) (r : Refusal) (s : FieldSet) → IsFirstRefusal u is r → Denotes u is s → ⊥
not_refused u is r s f d =
    all_middle (IsUnrefused u) f.before f.item f.after (subst (All (IsUnrefused u)) f.cut d.unrefused) r f.refused

-- ---- by computation

first_denotes : (u : TimeUnit) (o : Result Denoted Refusal) (more : Option Refusal) → first_refusal o more ≡ None → (d : Denoted) × (o ≡ Ok d)
first_denotes u (Ok d) more h = (d, refl)
first_denotes u (Err r) more h = absurd (cc)

-- What lies in one of the items, and whether one marks the last day, is what the union has.
record AreJoined (u : TimeUnit) (is : List Item) : Type 0 where
  free : All (IsUnrefused u) is
  lies : (x : ℕ) → (in_items u is x ≡ true) ↔ Any (λ i. LiesIn u i x) is
  within : (x : ℕ) → in_items u is x ≡ true → IsBetween u.least u.greatest x
  marks : (items_mark u is ≡ true) ↔ Any (MarksLastDay u) is

are_joined : (u : TimeUnit) (is : List Item) → IsUnit u → refusal_of u is ≡ None → AreJoined u is
are_joined u [] h none =
    record {
      free = All-nil (IsUnrefused u);
      lies = λ x. (λ e. absurd (false≢true e), λ a. absurd (no_any (λ i. LiesIn u i x) a));
      within = λ x e. absurd (false≢true e);
      marks = (λ e. absurd (false≢true e), λ a. absurd (no_any (MarksLastDay u) a));
    }
are_joined u (i ∷ is) h none =
    let first = first_denotes u (denoted_by u i) (refusal_of u is) none in
    let rest = are_joined u is h (ap (λ (o : Result Denoted Refusal). first_refusal o (refusal_of u is)) (sym first.1) ∙ none) in
    let is_one = denoted u i first.0 h first.1 in
    let has : (x : ℕ) → denoted_has x (denoted_by u i) ≡ in_denoted first.0 x = λ x. ap (denoted_has x) first.1 in
    let mark : denoted_marks (denoted_by u i) ≡ is_last_day first.0 = ap denoted_marks first.1 in
    record {
      free = All-cons (IsUnrefused u) i is (unrefused u i first.0 h first.1) rest.free;
      lies = λ x. (
        λ e. elim (or_cases (denoted_has x (denoted_by u i)) (in_items u is x) e) [
          | inl o ↦ any_first (λ j. LiesIn u j x) i is ((is_one.lies x).1 (sym (has x) ∙ o))
          | inr o ↦ any_later (λ j. LiesIn u j x) i is ((rest.lies x).0 o)
        ],
        λ a. elim (any_parts (λ j. LiesIn u j x) i is a) [
          | inl l ↦ or_left (denoted_has x (denoted_by u i)) (in_items u is x) (has x ∙ (is_one.lies x).0 l)
          | inr b ↦ or_right (denoted_has x (denoted_by u i)) (in_items u is x) ((rest.lies x).1 b)
        ],
      );
      within = λ x e. elim (or_cases (denoted_has x (denoted_by u i)) (in_items u is x) e) [
        | inl o ↦ is_one.within x ((is_one.lies x).1 (sym (has x) ∙ o))
        | inr o ↦ rest.within x o
      ];
      marks = (
        λ e. elim (or_cases (denoted_marks (denoted_by u i)) (items_mark u is) e) [
          | inl o ↦ any_first (MarksLastDay u) i is (is_one.marks.1 (sym mark ∙ o))
          | inr o ↦ any_later (MarksLastDay u) i is (rest.marks.0 o)
        ],
        λ a. elim (any_parts (MarksLastDay u) i is a) [
          | inl l ↦ or_left (denoted_marks (denoted_by u i)) (items_mark u is) (mark ∙ is_one.marks.0 l)
          | inr b ↦ or_right (denoted_marks (denoted_by u i)) (items_mark u is) (rest.marks.1 b)
        ],
      );
    }

-- Items of which none is refused denote the union that is computed.
pub denotes_union : (u : TimeUnit) (is : List Item) (s : FieldSet) → IsUnit u → refusal_of u is ≡ None → s ≡ union_of u is → Denotes u is s
denotes_union u is s h none e =
    let joined = are_joined u is h none in
    let numbers : s.ordinals ≡ set_of u (in_items u is) = ap (λ (t : FieldSet). t.ordinals) e in
    let mark : s.last_day ≡ items_mark u is = ap (λ (t : FieldSet). t.last_day) e in
    record {
      unrefused = joined.free;
      is_set = is_set_from u (in_items u is) s.ordinals numbers;
      ordinals = λ x. (
        λ c. (joined.lies x).0 (set_passes u (in_items u is) s.ordinals x h numbers c).1,
        λ a. let t = (joined.lies x).1 a in set_has u (in_items u is) s.ordinals x numbers (joined.within x t) t,
      );
      mark = (λ c. joined.marks.0 (sym mark ∙ c), λ a. mark ∙ joined.marks.1 a);
    }

-- ---- decided

pub items_are_refused_once : ItemsAreRefusedOnce
items_are_refused_once u i h = by_outcome (outcome u i h) where
  by_outcome : Outcome u i → IsUnrefused u i ⊎ IsRefusedOnce u i
  by_outcome (denotes d e k) = inl (unrefused u i d h e)
  by_outcome (refuses r k) = inr (record { refusal = r; refused = k; only = λ other j. refused_once u i other r h j k })

-- the computed refusal is the first
first_after : (u : TimeUnit) (i : Item) (is : List Item) (r : Refusal) → IsUnrefused u i → IsFirstRefusal u is r → IsFirstRefusal u (i ∷ is) r
first_after u i is r free f =
    record {
      before = i ∷ f.before;
      item = f.item;
      after = f.after;
      cut = ap (λ (js : List Item). i ∷ js) f.cut;
      unrefused = All-cons (IsUnrefused u) i f.before free f.unrefused;
      refused = f.refused;
    }

first_found : (u : TimeUnit) (is : List Item) (r : Refusal) → IsUnit u → refusal_of u is ≡ Some r → IsFirstRefusal u is r
first_found u [] r h e = absurd (cc)
first_found u (i ∷ is) r h e = by_found (denoted_by u i) refl e (first_found u is r h) where
  by_found : (o : Result Denoted Refusal) → denoted_by u i ≡ o → first_refusal o (refusal_of u is) ≡ Some r
      → (refusal_of u is ≡ Some r → IsFirstRefusal u is r) → IsFirstRefusal u (i ∷ is) r
  by_found (Ok d) f k again = first_after u i is r (unrefused u i d h f) (again k)
  by_found (Err q) f k again =
      let same : q ≡ r = cc in
      record {
        before = [];
        item = i;
        after = is;
        cut = refl;
        unrefused = All-nil (IsUnrefused u);
        refused = subst (IsRefusedFor u i) same (refused u i q h f);
      }

pub items_are_decided : ItemsAreDecided
items_are_decided u is h = by_found (refusal_of u is) refl where
  by_found : (o : Option Refusal) → refusal_of u is ≡ o → DenoteOnce u is ⊎ AreRefused u is
  by_found None e =
      let d = denotes_union u is (union_of u is) h e refl in
      inl (record {
        set = union_of u is;
        denotes = d;
        only = λ other k. denotes_once u is other (union_of u is) k d;
        filled = λ some. denotes_some u is (union_of u is) h some d;
        unrefused = λ r f. not_refused u is r (union_of u is) f d;
      })
  by_found (Some r) e =
      let f = first_found u is r h e in
      inr (record {
        refusal = r;
        first = f;
        only = λ other k. first_once u is other r h k f;
        nothing = λ s. not_refused u is r s f;
      })
