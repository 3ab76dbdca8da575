-- The items of a set have its numbers, and no other set has them.
use Rattle.std.proofs.Common.{◌≡◌, ◌==◌, ◌<◌, ◌≤◌, ◌^◌, ◌+◌, ℕ, Bool, true, false, ◌&&◌, ◌||◌, cond, nat_eq, nat_le, List, [], ◌∷◌, ◌++◌, refl, sym, ap, ◌∙◌, arith}
use Rattle.std.proofs.Math.Bool.{or-false}
use Rattle.std.proofs.lemmas.Bool.{eqb-true, false≢true}
use Rattle.std.proofs.lemmas.Bool.Decides.{nat_tests}
use Rattle.std.specs.List.{AllByRecursion, flat_map, list_any}
use Rattle.cron_canonical.proofs.ShortSets.{IsRun, all_within, has, member_within, runs_are, runs_have}
use Rattle.cron_canonical.specs.Short.{before_runs, runs_of}
use Rattle.cron_text.proofs.TokenRuns.{and_parts}
use Rattle.cron_units.proofs.SetLemmas.{set_same}
use Rattle.cron_units.specs.Denotation.{IsBetween}
use Rattle.cron_units.specs.Units.{IsSet, IsUnit, TimeUnit, contains}
use Rattle.cron_words.specs.Lists.{is_stepped, items_of, run_items, runs_as_items}
use Rattle.cron_words.specs.Progressions.{first, is_progression, last, last_from, progression, step}
use Rattle.cron_words.specs.declared.progressions.Progression.{Progression}
use Rattle.cron_words.specs.declared.items.Item.{Item}
use Rattle.cron_words.specs.declared.items.Item.TheVariants.{One, Range, Steps}
use Rattle.cron_words.proofs.ProgressionLemmas.{progressions_same}

-- whether an item that isn't a progression has a number
abbrev item_has : ℕ → Item → Bool
item_has x (One n) = nat_eq x n
item_has x (Range a b) = nat_le a x && nat_le x b
item_has x (Steps p) = false

-- an item within the unit
abbrev pub IsItem : TimeUnit → Item → Type 0
IsItem u (One n) = IsBetween u.least u.greatest n
IsItem u (Range a b) = IsBetween u.least u.greatest a × IsBetween u.least u.greatest b
IsItem u (Steps p) = IsBetween u.least u.greatest p.first × IsBetween u.least u.greatest p.last × (p.step ≤ u.greatest)

one_has : (x a b : ℕ) → a ≡ b → (nat_eq x a || false) ≡ (nat_le a x && nat_le x b)
one_has x a b e = grind (arith, nat_tests)

two_have : (x a b : ℕ) → a + 1 ≡ b → (nat_eq x a || (nat_eq x b || false)) ≡ (nat_le a x && nat_le x b)
two_have x a b e = grind (arith, nat_tests)

run_has : (x : ℕ) (r : ℕ × ℕ) → list_any (item_has x) (run_items r) ≡ has x r
run_has x r = by_test (r.0 == r.1) (r.0 + 1 == r.1) refl refl where
  by_test : (same next : Bool) → (r.0 == r.1) ≡ same → (r.0 + 1 == r.1) ≡ next → list_any (item_has x) (run_items r) ≡ has x r
  by_test true next e f = rw e (one_has x r.0 r.1 (eqb-true r.0 r.1 e))
  by_test false true e f = rw (e, f) (two_have x r.0 r.1 (eqb-true (r.0 + 1) r.1 f))
  by_test false false e f = rw (e, f) (or-false (has x r))

any_append : {A : Type 0} (p : A → Bool) (xs ys : List A) → list_any p (xs ++ ys) ≡ (list_any p xs || list_any p ys)
any_append p [] ys = refl
any_append p (x ∷ xs) ys = by_test (p x) (any_append p xs ys) where
  by_test : (b : Bool) → list_any p (xs ++ ys) ≡ (list_any p xs || list_any p ys) → (b || list_any p (xs ++ ys)) ≡ ((b || list_any p xs) || list_any p ys)
  by_test true e = refl
  by_test false e = e

runs_items_have : (x : ℕ) (rs : List (ℕ × ℕ)) → list_any (item_has x) (flat_map run_items rs) ≡ list_any (has x) rs
runs_items_have x [] = refl
runs_items_have x (r ∷ rs) = any_append (item_has x) (run_items r) (flat_map run_items rs) ∙ rw (run_has x r, runs_items_have x rs) refl

pub between : (u : TimeUnit) (ns : List ℕ) → IsUnit u → IsSet u ns → AllByRecursion (IsBetween u.least u.greatest) ns
between u ns h s = all_within (IsBetween u.least u.greatest) ns (λ x c. member_within u ns x h s c)

items_have : (u : TimeUnit) (ns : List ℕ) (x : ℕ) → IsUnit u → IsSet u ns → list_any (item_has x) (runs_as_items ns) ≡ contains ns x
unfolding runs_as_items
items_have u ns x h s = runs_items_have x (runs_of ns) ∙ runs_have u x ns (between u ns h s)

-- sets with the same runs are the same
runs_differ : (u : TimeUnit) (ns ms : List ℕ) → IsUnit u → IsSet u ns → IsSet u ms → runs_as_items ns ≡ runs_as_items ms → ns ≡ ms
runs_differ u ns ms h s t e =
    s ∙ (set_same u (contains ns) (contains ms)
    (λ x l g. sym (items_have u ns x h s) ∙ (ap (list_any (item_has x)) e ∙ items_have u ms x h t)) ∙ sym t)

is_steps : Item → Bool
is_steps (Steps p) = true
is_steps i = false

run_plain : (r : ℕ × ℕ) → list_any is_steps (run_items r) ≡ false
unfolding is_steps
run_plain r = by_test (r.0 == r.1) (r.0 + 1 == r.1) where
  by_test : (same next : Bool) → list_any is_steps (cond same (One r.0 ∷ []) (cond next (One r.0 ∷ One r.1 ∷ []) (Range r.0 r.1 ∷ []))) ≡ false
  by_test true next = refl
  by_test false true = refl
  by_test false false = refl

runs_plain : (rs : List (ℕ × ℕ)) → list_any is_steps (flat_map run_items rs) ≡ false
runs_plain [] = refl
runs_plain (r ∷ rs) = any_append is_steps (run_items r) (flat_map run_items rs) ∙ rw (run_plain r, runs_plain rs) refl

-- a progression isn't runs
steps_runs : (p : Progression) (ns : List ℕ) → Steps p ∷ [] ≡ runs_as_items ns → ⊥
unfolding is_steps runs_as_items
steps_runs p ns e = false≢true (sym (runs_plain (runs_of ns)) ∙ ap (list_any is_steps) (sym e))

-- sets with the same items are the same
pub items_differ : (u : TimeUnit) (ns ms : List ℕ) → IsUnit u → IsSet u ns → IsSet u ms → items_of ns ≡ items_of ms → ns ≡ ms
unfolding items_of
items_differ u ns ms h s t e = by_test (is_stepped ns) (is_stepped ms) refl refl e where
  by_test : (a b : Bool) → is_stepped ns ≡ a → is_stepped ms ≡ b
      → cond a (Steps (progression ns) ∷ []) (runs_as_items ns) ≡ cond b (Steps (progression ms) ∷ []) (runs_as_items ms) → ns ≡ ms
  by_test true true x y g =
      let same : progression ns ≡ progression ms = cc in
      progressions_same ns ms (and_parts (is_progression ns) _ x).0 (and_parts (is_progression ms) _ y).0 (ap (λ (p : Progression). p.first) same)
      (ap (λ (p : Progression). p.step) same) (ap (λ (p : Progression). p.last) same)
  by_test true false x y g = absurd (steps_runs (progression ns) ms g)
  by_test false true x y g = absurd (steps_runs (progression ms) ns (sym g))
  by_test false false x y g = runs_differ u ns ms h s t g

-- ---- the items lie within the unit

all_append : {A : Type 0} (P : A → Type 0) (xs ys : List A) → AllByRecursion P xs → AllByRecursion P ys → AllByRecursion P (xs ++ ys)
all_append P [] ys p q = q
all_append P (x ∷ xs) ys p q = (p.0, all_append P xs ys p.1 q)

run_is : (u : TimeUnit) (r : ℕ × ℕ) → IsRun u r → AllByRecursion (IsItem u) (run_items r)
run_is u r w = by_test (r.0 == r.1) (r.0 + 1 == r.1) refl refl where
  by_test : (same next : Bool) → (r.0 == r.1) ≡ same → (r.0 + 1 == r.1) ≡ next → AllByRecursion (IsItem u) (run_items r)
  by_test true next e f = rw e ((w.0, omega (arith, w.1, w.2)), tt)
  by_test false true e f = rw (e, f) ((w.0, omega (arith, w.1, w.2)), ((omega (arith, w.0, w.1), w.2), tt))
  by_test false false e f = rw (e, f) (((w.0, omega (arith, w.1, w.2)), (omega (arith, w.0, w.1), w.2)), tt)

runs_items_are : (u : TimeUnit) (rs : List (ℕ × ℕ)) → AllByRecursion (IsRun u) rs → AllByRecursion (IsItem u) (flat_map run_items rs)
runs_items_are u [] a = tt
runs_items_are u (r ∷ rs) a = all_append (IsItem u) (run_items r) (flat_map run_items rs) (run_is u r a.0) (runs_items_are u rs a.1)

last_within : (P : ℕ → Type 0) (n : ℕ) (ns : List ℕ) → P n → AllByRecursion P ns → P (last_from n ns)
last_within P n [] p a = p
last_within P n (m ∷ ns) p a = last_within P m ns a.0 a.1

-- the ends and the step of numbers of a unit
pub steps_are : (u : TimeUnit) (n : ℕ) (ns : List ℕ) → IsUnit u → IsSet u (n ∷ ns) → IsItem u (Steps (progression (n ∷ ns)))
steps_are u n ns h s = by_list ns (between u (n ∷ ns) h s) where
  by_list : (ms : List ℕ) → AllByRecursion (IsBetween u.least u.greatest) (n ∷ ms) → IsItem u (Steps (progression (n ∷ ms)))
  by_list [] w = (w.0, w.0, omega arith)
  by_list (m ∷ ms) w = (w.0, last_within (IsBetween u.least u.greatest) n (m ∷ ms) w.0 w.1, omega (arith, w.1.0.1))

pub first_small : (u : TimeUnit) (ns : List ℕ) → IsUnit u → IsSet u ns → first ns < 2 ^ 32
first_small u [] h s = omega arith
first_small u (n ∷ ns) h s = let w = between u (n ∷ ns) h s in omega (arith, w.0.1, h.countable)

pub last_small : (u : TimeUnit) (ns : List ℕ) → IsUnit u → IsSet u ns → last ns < 2 ^ 32
last_small u [] h s = omega arith
last_small u (n ∷ ns) h s = let w = steps_are u n ns h s in omega (arith, w.1.1, h.countable)

pub step_small : (u : TimeUnit) (ns : List ℕ) → IsUnit u → IsSet u ns → step ns < 2 ^ 32
step_small u [] h s = omega arith
step_small u (n ∷ ns) h s = let w = steps_are u n ns h s in omega (arith, w.2, h.countable)

pub items_are : (u : TimeUnit) (ns : List ℕ) → IsUnit u → IsSet u ns → AllByRecursion (IsItem u) (items_of ns)
unfolding items_of runs_as_items
items_are u ns h s = by_test (is_stepped ns) refl where
  by_list : (ms : List ℕ) → IsSet u ms → is_progression ms ≡ true → IsItem u (Steps (progression ms))
  by_list [] t x = absurd (false≢true x)
  by_list (m ∷ ms) t x = steps_are u m ms h t

  by_test : (a : Bool) → is_stepped ns ≡ a → AllByRecursion (IsItem u) (cond a (Steps (progression ns) ∷ []) (runs_as_items ns))
  by_test true x = (by_list ns s (and_parts (is_progression ns) _ x).0, tt)
  by_test false x = runs_items_are u (runs_of ns) (runs_are u ns (between u ns h s))

-- ---- there is an item

abbrev IsSome : List Item → Type 0
IsSome is = is ≡ [] → ⊥

run_some : (r : ℕ × ℕ) (is : List Item) → IsSome (run_items r ++ is)
run_some r is = by_test (r.0 == r.1) (r.0 + 1 == r.1) refl refl where
  by_test : (same next : Bool) → (r.0 == r.1) ≡ same → (r.0 + 1 == r.1) ≡ next → IsSome (run_items r ++ is)
  by_test true next e f = rw e (λ h. absurd (cc))
  by_test false true e f = rw (e, f) (λ h. absurd (cc))
  by_test false false e f = rw (e, f) (λ h. absurd (cc))

before_some : (n : ℕ) (rs : List (ℕ × ℕ)) → IsSome (flat_map run_items (before_runs n rs))
before_some n [] = run_some (n, n) []
before_some n (r ∷ rs) = by_test (n + 1 == r.0) refl where
  by_test : (joins : Bool) → (n + 1 == r.0) ≡ joins → IsSome (flat_map run_items (before_runs n (r ∷ rs)))
  by_test true e = rw e (run_some (n, r.1) (flat_map run_items rs))
  by_test false e = rw e (run_some (n, n) (flat_map run_items (r ∷ rs)))

pub items_some : (n : ℕ) (ns : List ℕ) → items_of (n ∷ ns) ≡ [] → ⊥
unfolding items_of runs_as_items runs_of
items_some n ns = by_test (is_stepped (n ∷ ns)) where
  by_test : (a : Bool) → cond a (Steps (progression (n ∷ ns)) ∷ []) (runs_as_items (n ∷ ns)) ≡ [] → ⊥
  by_test true e = absurd (cc)
  by_test false e = before_some n (runs_of ns) e
