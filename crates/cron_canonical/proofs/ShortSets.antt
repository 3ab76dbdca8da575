-- The items of a short form denote the set that it is of.
use Rattle.std.proofs.Common.{◌≡◌, ℕ, ◌+◌, ◌-◌, ◌≤◌, ◌==◌, Bool, true, false, ◌&&◌, ◌||◌, cond, nat_eq, nat_le, Option, None, Result, Ok, Err, List, [], ◌∷◌, ◌++◌, map, inl, inr, refl, sym, ap, ◌∙◌, arith, codes}
use Rattle.std.proofs.Math.Bool.{and-true}
use Rattle.std.proofs.Math.Nat.{mod-one}
use Rattle.std.proofs.lemmas.Bool.{cases_lt, false≢true, le-leb, le-ltb, eq-eqb, eqb-true}
use Rattle.std.proofs.lemmas.Bool.Decides.{nat_tests}
use Rattle.std.proofs.lemmas.List.{nil_from_length}
use Rattle.std.proofs.lemmas.Slice.Eq.{bytes_eq-Decides}
use Rattle.std.specs.List.{list_any, AllByRecursion}
use Rattle.std.specs.Str.{bytes_eq}
use Rattle.cron_units.specs.Denotation.{IsBetween, Denotes}
use Rattle.cron_units.specs.Inner.ItemSteps.{Denoted, by_steps, denoted_by, denoted_marks, first_refusal, in_items, items_mark, refusal_of, union_of}
use Rattle.cron_units.specs.Items.{Item, every, plain, name}
use Rattle.cron_units.specs.Refusals.{Refusal}
use Rattle.cron_units.specs.Steps.{in_steps}
use Rattle.cron_units.specs.Units.{TimeUnit, FieldSet, IsUnit, IsSet, contains, means_last_day, set_of, whole}
use Rattle.cron_units.proofs.DenotedSets.{denotes_union}
use Rattle.cron_units.proofs.SetLemmas.{contains_set, contains_before, contains_after, set_same, whole_is_all}
use Rattle.cron_canonical.specs.Short.{before_runs, runs_of, run_item, number_items, short_items}
use Rattle.cron_canonical.proofs.ShortTokens.{IsShortItem}
use Rattle.cron_canonical.proofs.DayLemmas.{some_items}

-- ---- runs have the numbers that they are of

abbrev pub has : ℕ → ℕ × ℕ → Bool
has x r = nat_le r.0 x && nat_le x r.1

-- a run isn't empty, and lies within the unit
abbrev pub IsRun : TimeUnit → ℕ × ℕ → Type 0
IsRun u r = (u.least ≤ r.0) × (r.0 ≤ r.1) × (r.1 ≤ u.greatest)

before_are : (u : TimeUnit) (n : ℕ) (rs : List (ℕ × ℕ)) → IsBetween u.least u.greatest n → AllByRecursion (IsRun u) rs
    → AllByRecursion (IsRun u) (before_runs n rs)
before_are u n [] w a = ((w.0, omega arith, w.1), tt)
before_are u n (r ∷ rs) w a = by_test (n + 1 == r.0) refl where
  by_test : (joins : Bool) → (n + 1 == r.0) ≡ joins → AllByRecursion (IsRun u) (before_runs n (r ∷ rs))
  by_test true e = let next : n + 1 ≡ r.0 = eqb-true (n + 1) r.0 e in rw e ((w.0, omega (arith, next, a.0.1), a.0.2), a.1)
  by_test false e = rw e ((w.0, omega arith, w.1), a)

pub runs_are : (u : TimeUnit) (ns : List ℕ) → AllByRecursion (IsBetween u.least u.greatest) ns → AllByRecursion (IsRun u) (runs_of ns)
unfolding runs_of
runs_are u [] a = tt
runs_are u (n ∷ ns) a = before_are u n (runs_of ns) a.0 (runs_are u ns a.1)

one_has : (n x : ℕ) → (nat_le n x && nat_le x n) ≡ nat_eq x n
one_has n x = grind (arith, nat_tests)

longer_has : (n a b x : ℕ) → n + 1 ≡ a → a ≤ b → (nat_le n x && nat_le x b) ≡ (nat_eq x n || (nat_le a x && nat_le x b))
longer_has n a b x e l = grind (arith, nat_tests)

or_assoc : (a b c : Bool) → ((a || b) || c) ≡ (a || (b || c))
or_assoc true b c = refl
or_assoc false b c = refl

before_has : (u : TimeUnit) (n x : ℕ) (rs : List (ℕ × ℕ)) → AllByRecursion (IsRun u) rs
    → list_any (has x) (before_runs n rs) ≡ (nat_eq x n || list_any (has x) rs)
before_has u n x [] a = rw (one_has n x) refl
before_has u n x (r ∷ rs) a = by_test (n + 1 == r.0) refl where
  by_test : (joins : Bool) → (n + 1 == r.0) ≡ joins → list_any (has x) (before_runs n (r ∷ rs)) ≡ (nat_eq x n || list_any (has x) (r ∷ rs))
  by_test true e =
      rw (e, longer_has n r.0 r.1 x (eqb-true (n + 1) r.0 e) a.0.1) (or_assoc (nat_eq x n) (has x r) (list_any (has x) rs))
  by_test false e = rw (e, one_has n x) refl

pub runs_have : (u : TimeUnit) (x : ℕ) (ns : List ℕ) → AllByRecursion (IsBetween u.least u.greatest) ns → list_any (has x) (runs_of ns) ≡ contains ns x
unfolding runs_of
runs_have u x [] a = refl
runs_have u x (n ∷ ns) a =
    before_has u n x (runs_of ns) (runs_are u ns a.1) ∙ ap (λ (b : Bool). nat_eq x n || b) (runs_have u x ns a.1)

-- ---- a run's item

abbrev every_one : ℕ → ℕ → Denoted
every_one first last = by_steps (record { first = first; last = last; every = 1 })

run_denoted : (u : TimeUnit) (r : ℕ × ℕ) → IsRun u r → denoted_by u (run_item r) ≡ Ok (every_one r.0 r.1)
run_denoted u r w = by_test (r.0 == r.1) refl where
  by_test : (same : Bool) → (r.0 == r.1) ≡ same → denoted_by u (run_item r) ≡ Ok (every_one r.0 r.1)
  by_test true e =
      let one : r.0 ≡ r.1 = eqb-true r.0 r.1 e in
      rw (e, le-ltb r.0 u.least w.0, le-ltb u.greatest r.0 (omega (arith, one, w.2))) (ap (λ (k : ℕ). Ok (every_one r.0 k)) one)
  by_test false e = rw (e, le-ltb r.0 u.least w.0, le-ltb u.greatest r.1 w.2, le-ltb r.1 r.0 w.1) refl

stepless : (x first last : ℕ) → in_steps (record { first = first; last = last; every = 1 }) x ≡ (nat_le first x && nat_le x last)
stepless x first last = rw (mod-one (x - first)) (and-true (nat_le first x && nat_le x last))

run_short : (u : TimeUnit) (r : ℕ × ℕ) → IsUnit u → IsRun u r → IsShortItem (run_item r)
run_short u r h w = by_test (r.0 == r.1) refl where
  by_test : (same : Bool) → (r.0 == r.1) ≡ same → IsShortItem (run_item r)
  by_test true e = rw e (omega (arith, w.1, w.2, h.countable))
  by_test false e = rw e (omega (arith, w.1, w.2, h.countable), omega (arith, w.2, h.countable))

-- ---- items whose union is computed

-- none of the items is refused, they have these numbers of the unit, and no mark
record AreNumbers (u : TimeUnit) (xs : List ℕ) (is : List Item) : Type 0 where
  free : refusal_of u is ≡ None
  same : (x : ℕ) → u.least ≤ x → x ≤ u.greatest → in_items u is x ≡ contains xs x
  unmarked : items_mark u is ≡ false
  short : AllByRecursion IsShortItem is

runs_free : (u : TimeUnit) (rs : List (ℕ × ℕ)) → AllByRecursion (IsRun u) rs → refusal_of u (map run_item rs) ≡ None
runs_free u [] a = refl
runs_free u (r ∷ rs) a = rw (run_denoted u r a.0) (runs_free u rs a.1)

runs_in : (u : TimeUnit) (x : ℕ) (rs : List (ℕ × ℕ)) → AllByRecursion (IsRun u) rs → in_items u (map run_item rs) x ≡ list_any (has x) rs
runs_in u x [] a = refl
runs_in u x (r ∷ rs) a = rw (run_denoted u r a.0, stepless x r.0 r.1, runs_in u x rs a.1) refl

runs_unmarked : (u : TimeUnit) (rs : List (ℕ × ℕ)) → AllByRecursion (IsRun u) rs → items_mark u (map run_item rs) ≡ false
runs_unmarked u [] a = refl
runs_unmarked u (r ∷ rs) a = rw (run_denoted u r a.0) (runs_unmarked u rs a.1)

runs_short : (u : TimeUnit) (rs : List (ℕ × ℕ)) → IsUnit u → AllByRecursion (IsRun u) rs → AllByRecursion IsShortItem (map run_item rs)
runs_short u [] h a = tt
runs_short u (r ∷ rs) h a = (run_short u r h a.0, runs_short u rs h a.1)

runs_numbers : (u : TimeUnit) (ns : List ℕ) → IsUnit u → AllByRecursion (IsBetween u.least u.greatest) ns → AreNumbers u ns (map run_item (runs_of ns))
runs_numbers u ns h a =
    let runs = runs_are u ns a in
    record {
      free = runs_free u (runs_of ns) runs;
      same = λ x l g. runs_in u x (runs_of ns) runs ∙ runs_have u x ns a;
      unmarked = runs_unmarked u (runs_of ns) runs;
      short = runs_short u (runs_of ns) h runs;
    }

star_numbers : (u : TimeUnit) (ns : List ℕ) → ns ≡ whole u → AreNumbers u ns (plain every ∷ [])
star_numbers u ns e =
    record {
      free = refl;
      same = λ x l g. rw (stepless x u.least u.greatest, le-leb u.least x l, le-leb x u.greatest g)
          (sym (ap (λ (ys : List ℕ). contains ys x) (e ∙ sym (whole_is_all u)) ∙ contains_set u (λ y. true) x l g));
      unmarked = refl;
      short = (tt, tt);
    }

-- a member of a set of the unit is one of its ordinals
pub member_within : (u : TimeUnit) (ns : List ℕ) (x : ℕ) → IsUnit u → IsSet u ns → contains ns x ≡ true → IsBetween u.least u.greatest x
member_within u ns x h s c =
    let there : contains (set_of u (contains ns)) x ≡ true = ap (λ (ys : List ℕ). contains ys x) (sym s) ∙ c in
    elim (cases_lt x u.least) [
      | inl l ↦ absurd (false≢true (sym (contains_before u (contains ns) x l) ∙ there))
      | inr low ↦ elim (cases_lt u.greatest x) [
        | inl l ↦ absurd (false≢true (sym (contains_after u (contains ns) x h.ordered l) ∙ there))
        | inr high ↦ (low, high)
      ]
    ]

or_later : (a b : Bool) → b ≡ true → (a || b) ≡ true
or_later true b e = refl
or_later false b e = e

pub all_within : (P : ℕ → Type 0) (ns : List ℕ) → ((x : ℕ) → contains ns x ≡ true → P x) → AllByRecursion P ns
all_within P [] f = tt
all_within P (n ∷ ns) f = (f n (rw (eq-eqb n n refl) refl), all_within P ns (λ x c. f x (or_later (nat_eq x n) (contains ns x) c)))

set_numbers : (u : TimeUnit) (ns : List ℕ) → IsUnit u → IsSet u ns → AreNumbers u ns (number_items u ns)
set_numbers u ns h s = by_test (bytes_eq ns (whole u)) refl where
  by_test : (all : Bool) → bytes_eq ns (whole u) ≡ all → AreNumbers u ns (number_items u ns)
  by_test true e = rw e (star_numbers u ns ((bytes_eq-Decides ns (whole u)).0 e))
  by_test false e = rw e (runs_numbers u ns h (all_within (IsBetween u.least u.greatest) ns (λ x c. member_within u ns x h s c)))

-- ---- the mark behind the numbers

abbrev last : Item
last = name (codes "L")

free_after : (o : Result Denoted Refusal) (more later : Option Refusal) → first_refusal o more ≡ None → (more ≡ None → later ≡ None)
    → first_refusal o later ≡ None
free_after (Ok d) more later e f = f e
free_after (Err r) more later e f = absurd (cc)

pushed_some : (is : List Item) → is ++ last ∷ [] ≡ [] → ⊥
pushed_some [] e = absurd (cc)
pushed_some (i ∷ is) e = absurd (cc)

marked_free : (u : TimeUnit) (is : List Item) → means_last_day u (codes "L") ≡ true → refusal_of u is ≡ None → refusal_of u (is ++ last ∷ []) ≡ None
marked_free u [] m f = rw m refl
marked_free u (i ∷ is) m f = free_after (denoted_by u i) (refusal_of u is) (refusal_of u (is ++ last ∷ [])) f (marked_free u is m)

marked_in : (u : TimeUnit) (x : ℕ) (is : List Item) → means_last_day u (codes "L") ≡ true → in_items u (is ++ last ∷ []) x ≡ in_items u is x
marked_in u x [] m = rw m refl
marked_in u x (i ∷ is) m = rw (marked_in u x is m) refl

marked_mark : (u : TimeUnit) (is : List Item) → means_last_day u (codes "L") ≡ true → items_mark u (is ++ last ∷ []) ≡ true
marked_mark u [] m = rw m refl
marked_mark u (i ∷ is) m = or_later (denoted_marks (denoted_by u i)) (items_mark u (is ++ last ∷ [])) (marked_mark u is m)

marked_short : (is : List Item) → AllByRecursion IsShortItem is → AllByRecursion IsShortItem (is ++ last ∷ [])
marked_short [] a = (refl, tt)
marked_short (i ∷ is) a = (a.0, marked_short is a.1)

-- ---- the items of a set

-- the items of a field's short form: they denote its set, there is at least one, and each is a short one
pub record AreShortItems (u : TimeUnit) (s : FieldSet) (is : List Item) : Type 0 where
  pub denotes : Denotes u is s
  pub some : is ≡ [] → ⊥
  pub short : AllByRecursion IsShortItem is

same_fields : (s t : FieldSet) → s.ordinals ≡ t.ordinals → s.last_day ≡ t.last_day → s ≡ t
same_fields s t n m = rw (n, m) refl

joined : (u : TimeUnit) (s : FieldSet) (is : List Item) → IsUnit u → IsSet u s.ordinals → refusal_of u is ≡ None
    → ((x : ℕ) → u.least ≤ x → x ≤ u.greatest → in_items u is x ≡ contains s.ordinals x) → items_mark u is ≡ s.last_day → Denotes u is s
joined u s is h set free same mark =
    let numbers : s.ordinals ≡ set_of u (in_items u is) = set ∙ sym (set_same u (in_items u is) (contains s.ordinals) same) in
    denotes_union u is s h free (same_fields s (union_of u is) numbers (sym mark))

pub short_items_are : (u : TimeUnit) (s : FieldSet) → IsUnit u → IsSet u s.ordinals → (s.ordinals ≡ [] → s.last_day ≡ true)
    → (s.last_day ≡ true → means_last_day u (codes "L") ≡ true) → AreShortItems u s (short_items u s)
short_items_are u s h set filled m = by_mark s.last_day refl where
  numbers : AreNumbers u s.ordinals (number_items u s.ordinals)
  numbers = set_numbers u s.ordinals h set

  by_mark : (mark : Bool) → s.last_day ≡ mark
      → AreShortItems u s (cond mark (number_items u s.ordinals ++ last ∷ []) (number_items u s.ordinals))
  by_mark true e =
      let word = m e in
      record {
        denotes = joined u s (number_items u s.ordinals ++ last ∷ []) h set (marked_free u (number_items u s.ordinals) word numbers.free)
            (λ x l g. marked_in u x (number_items u s.ordinals) word ∙ numbers.same x l g)
            (marked_mark u (number_items u s.ordinals) word ∙ sym e);
        some = pushed_some (number_items u s.ordinals);
        short = marked_short (number_items u s.ordinals) numbers.short;
      }
  by_mark false e =
      record {
        denotes = joined u s (number_items u s.ordinals) h set numbers.free numbers.same (numbers.unmarked ∙ sym e);
        some = some_items u s.ordinals (λ none. false≢true (sym e ∙ filled (nil_from_length s.ordinals none)));
        short = numbers.short;
      }
