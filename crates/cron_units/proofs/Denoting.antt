-- What the code finds of an item is what the tables say: what lies in it, and what it is refused for.
use Rattle.std.proofs.Common.{◌≡◌, ◌⊎◌, ◌↔◌, ℕ, ◌+◌, ◌-◌, ◌*◌, ◌/◌, ◌%◌, ◌<◌, ◌≤◌, Bool, true, false, ◌&&◌, ◌||◌, cond, nat_eq, nat_lt, nat_le, inl, inr, Option, Some, None, Result, Ok, Err, List, IfSome, refl, sym, ap, ◌∙◌, subst, arith, le_refl, le_trans}
use Rattle.std.proofs.Math.Nat.{mul-mod_left}
use Rattle.std.proofs.lemmas.Nat.{div-add-mod'}
use Rattle.std.proofs.lemmas.Bool.{false≢true, cases_lt, cases_eq, lt-ltb, le-ltb, eq-eqb, ne_eqb, and_parts, leb-true, eqb-true}
use Rattle.cron_units.specs.Denotation.{IsBetween, LiesInBase, IsSteppedOver, IsLeast, IsStepsAfter, LiesIn, MarksLastDay}
use Rattle.cron_units.specs.Inner.ItemSteps.{Denoted, the_last_day, found_name, name_ends, ends, end_of, every_nth, each_of, one_ordinal, of_steps, denoted_by, in_denoted, is_last_day}
use Rattle.cron_units.specs.Items.{Base, every, question_mark, single, number_range, name_range, Item, plain, stepped, name}
use Rattle.cron_units.specs.Refusals.{Refusal, IsOutside, IsBaseRefusedFor, below, above, no_range, first_unknown, second_unknown, turned, IsRefusedFor, by_base, by_zero, by_step, by_stepped, unknown, IsUnrefused}
use Rattle.cron_units.specs.Steps.{Progression, in_steps}
use Rattle.cron_units.specs.Units.{TimeUnit, IsUnit, ordinal_of, means_last_day}
use Rattle.cron_units.proofs.Progressions.{is_step}
use Rattle.cron_units.proofs.NameLemmas.{ordinal_within}

some_same : {A : Type 0} (a b : A) → Some a ≡ Some b → a ≡ b
some_same a b h = cc

-- ---- a base

-- the base is not refused: what lies in it are the ordinals from a first to a last one, at least one
record AreEnds (u : TimeUnit) (b : Base) (first last : ℕ) : Type 0 where
  low : u.least ≤ first
  ordered : first ≤ last
  high : last ≤ u.greatest
  lies : (x : ℕ) → LiesInBase u b x ↔ IsBetween first last x

abbrev BaseIs : TimeUnit → Base → Result (ℕ × ℕ) Refusal → Type 0
BaseIs u b (Ok p) = AreEnds u b p.0 p.1
BaseIs u b (Err r) = IsBaseRefusedFor u b r

whole_is : (u : TimeUnit) (b : Base) → IsUnit u → ((x : ℕ) → LiesInBase u b x ↔ IsBetween u.least u.greatest x) → AreEnds u b u.least u.greatest
whole_is u b h l = record { low = le_refl u.least; ordered = h.ordered; high = le_refl u.greatest; lies = l }

single_is : (u : TimeUnit) (n : ℕ) → BaseIs u (single n) (ends u (single n))
single_is u n =
    elim (cases_lt n u.least) [
      | inl l ↦ rw (lt-ltb n u.least l) (below l)
      | inr low ↦ elim (cases_lt u.greatest n) [
        | inl l ↦ rw (le-ltb n u.least low, lt-ltb u.greatest n l) (above l)
        | inr high ↦ rw (le-ltb n u.least low, le-ltb u.greatest n high) (record {
          low = low;
          ordered = le_refl n;
          high = high;
          lies = λ x. (λ e. (omega arith, omega arith), λ l. omega arith);
        })
      ]
    ]

range_is : (u : TimeUnit) (a b : ℕ) → BaseIs u (number_range a b) (ends u (number_range a b))
range_is u a b =
    elim (cases_lt a u.least) [
      | inl l ↦ rw (lt-ltb a u.least l) (no_range (inl (inl l)))
      | inr low ↦ elim (cases_lt u.greatest b) [
        | inl l ↦ rw (le-ltb a u.least low, lt-ltb u.greatest b l) (no_range (inr (inl (inr l))))
        | inr high ↦ elim (cases_lt b a) [
          | inl l ↦ rw (le-ltb a u.least low, le-ltb u.greatest b high, lt-ltb b a l) (no_range (inr (inr l)))
          | inr g ↦ rw (le-ltb a u.least low, le-ltb u.greatest b high, le-ltb b a g) (record {
            low = low;
            ordered = g;
            high = high;
            lies = λ x. (λ l. l, λ l. l);
          })
        ]
      ]
    ]

names_is : (u : TimeUnit) (v w : List ℕ) (o p : Option ℕ) → ordinal_of u v ≡ o → ordinal_of u w ≡ p → IfSome o (IsBetween u.least u.greatest)
    → IfSome p (IsBetween u.least u.greatest) → BaseIs u (name_range v w) (name_ends v w (found_name v o) (found_name w p))
names_is u v w None p e f h k = first_unknown e
names_is u v w (Some a) None e f h k = second_unknown e f
names_is u v w (Some a) (Some b) e f h k =
    elim (cases_lt b a) [
      | inl l ↦ rw (lt-ltb b a l) (turned e f l)
      | inr g ↦ rw (le-ltb b a g) (record {
        low = h.0;
        ordered = g;
        high = k.1;
        lies = λ x. (
          λ t.
              let first = some_same t.0 a (sym t.2 ∙ e) in
              let last = some_same t.1 b (sym t.3 ∙ f) in
              (omega arith, omega arith),
          λ l. (a, b, e, f, l),
        );
      })
    ]

base_is : (u : TimeUnit) (b : Base) → IsUnit u → BaseIs u b (ends u b)
base_is u every h = whole_is u every h (λ x. (λ l. l, λ l. l))
base_is u question_mark h = whole_is u question_mark h (λ x. (λ l. l, λ l. l))
base_is u (single n) h = single_is u n
base_is u (number_range a b) h = range_is u a b
base_is u (name_range v w) h =
    names_is u v w (ordinal_of u v) (ordinal_of u w) refl refl (ordinal_within u v h) (ordinal_within u w h)

-- what a range is refused for is one of the three tests of its ends
range_test : (u : TimeUnit) (a b : ℕ) → IsOutside u a ⊎ IsOutside u b ⊎ (b < a) → (nat_lt a u.least || nat_lt u.greatest b || nat_lt b a) ≡ true
range_test u a b h =
    elim (cases_lt a u.least) [
      | inl l ↦ rw (lt-ltb a u.least l) refl
      | inr low ↦ elim (cases_lt u.greatest b) [
        | inl l ↦ rw (le-ltb a u.least low, lt-ltb u.greatest b l) refl
        | inr high ↦ rw (le-ltb a u.least low, le-ltb u.greatest b high, lt-ltb b a (omega (arith, h))) refl
      ]
    ]

base_refused : (u : TimeUnit) (b : Base) (r : Refusal) → IsUnit u → IsBaseRefusedFor u b r → ends u b ≡ Err r
base_refused u every r h k = elim k [ ]
base_refused u question_mark r h k = elim k [ ]
base_refused u (single n) r h (below l) = rw (lt-ltb n u.least l) refl
base_refused u (single n) r h (above l) = rw (le-ltb n u.least (omega (arith, h.ordered)), lt-ltb u.greatest n l) refl
base_refused u (number_range a b) r h (no_range k) = rw (range_test u a b k) refl
base_refused u (name_range v w) r h (first_unknown e) = rw e refl
base_refused u (name_range v w) r h (second_unknown e f) = rw (e, f) refl
base_refused u (name_range v w) r h (turned {a = a} {b = b} e f l) = rw (e, f, lt-ltb b a l) refl

-- ---- steps

steps_parts : (s : Progression) (x : ℕ) → in_steps s x ≡ true → IsBetween s.first s.last x × ((x - s.first) % s.every ≡ 0)
steps_parts s x h =
    let parts = and_parts (nat_le s.first x && nat_le x s.last) (nat_eq ((x - s.first) % s.every) 0) h in
    let ends = and_parts (nat_le s.first x) (nat_le x s.last) parts.0 in
    ((leb-true s.first x ends.0, leb-true x s.last ends.1), eqb-true ((x - s.first) % s.every) 0 parts.1)

steps_lie : (s : Progression) (x : ℕ) → (IsBetween s.first s.last x × IsStepsAfter s.every s.first x) ↔ (in_steps s x ≡ true)
steps_lie s x = (
  λ h.
      let apart : x - s.first ≡ h.1.0 * s.every = omega (arith, h.1.1) in
      is_step s x h.0.0 h.0.1 (ap (λ (n : ℕ). n % s.every) apart ∙ mul-mod_left h.1.0 s.every),
  λ t.
      let parts = steps_parts s x t in
      (parts.0, ((x - s.first) / s.every, omega (arith, div-add-mod' (x - s.first) s.every, parts.1, parts.0.0))),
)

over_is : (u : TimeUnit) (b : Base) (first last : ℕ) → AreEnds u b first last → (x : ℕ) → IsSteppedOver u b x ↔ IsBetween first (end_of u b last) x
over_is u every first last h x = h.lies x
over_is u question_mark first last h x = h.lies x
over_is u (single n) first last h x =
    let same : first ≡ n = (h.lies first).1 (le_refl first, h.ordered) in
    (λ l. (omega (arith, same, l.0), l.1), λ l. (omega (arith, same, l.0), l.1))
over_is u (number_range a b) first last h x = h.lies x
over_is u (name_range v w) first last h x = h.lies x

end_within : (u : TimeUnit) (b : Base) (first last : ℕ) → AreEnds u b first last → IsBetween first u.greatest (end_of u b last)
end_within u every first last h = (h.ordered, h.high)
end_within u question_mark first last h = (h.ordered, h.high)
end_within u (single n) first last h = (le_trans h.ordered h.high, le_refl u.greatest)
end_within u (number_range a b) first last h = (h.ordered, h.high)
end_within u (name_range v w) first last h = (h.ordered, h.high)

-- ---- an item

-- what lies in the item is what the steps have, some ordinal of the unit; or the item marks the last day
pub record IsDenotedAs (u : TimeUnit) (i : Item) (d : Denoted) : Type 0 where
  pub lies : (x : ℕ) → LiesIn u i x ↔ (in_denoted d x ≡ true)
  pub marks : MarksLastDay u i ↔ (is_last_day d ≡ true)
  pub within : (x : ℕ) → LiesIn u i x → IsBetween u.least u.greatest x
  pub some : ((x : ℕ) × LiesIn u i x) ⊎ MarksLastDay u i

abbrev ItemIs : TimeUnit → Item → Result Denoted Refusal → Type 0
ItemIs u i (Ok d) = IsDenotedAs u i d
ItemIs u i (Err r) = IsRefusedFor u i r

plain_is : (u : TimeUnit) (b : Base) (r : Result (ℕ × ℕ) Refusal) → BaseIs u b r → ItemIs u (plain b) (of_steps (each_of r))
plain_is u b (Err r) h = by_base h
plain_is u b (Ok p) h =
    let s : Progression = record { first = p.0; last = p.1; every = 1 } in
    record {
      lies = λ x. (
        λ k. let l = (h.lies x).0 k in (steps_lie s x).0 (l, (x - p.0, omega (arith, l.0))),
        λ t. (h.lies x).1 ((steps_lie s x).1 t).0,
      );
      marks = (λ k. absurd k, λ e. absurd (false≢true e));
      within = λ x k. let l = (h.lies x).0 k in (le_trans h.low l.0, le_trans l.1 h.high);
      some = inl (p.0, (h.lies p.0).1 (le_refl p.0, h.ordered));
    }

nth_is : (u : TimeUnit) (b : Base) (n : ℕ) (r : Result (ℕ × ℕ) Refusal) → 0 < n → n ≤ u.greatest → BaseIs u b r
    → ItemIs u (stepped b n) (of_steps (every_nth u b n r))
nth_is u b n (Err r) some fits h = by_stepped some fits h
nth_is u b n (Ok p) some fits h =
    let s : Progression = record { first = p.0; last = end_of u b p.1; every = n } in
    let over = over_is u b p.0 p.1 h in
    let end = end_within u b p.0 p.1 h in
    let here = (h.lies p.0).1 (le_refl p.0, h.ordered) in
    let least : IsLeast (LiesInBase u b) p.0 = (here, λ x k. ((h.lies x).0 k).0) in
    record {
      lies = λ x. (
        λ k.
            let after : p.0 ≤ k.1 = least.1 k.1 k.2.0 in
            let before : k.1 ≤ p.0 = k.2.1 p.0 here in
            let same : k.1 ≡ p.0 = omega arith in
            (steps_lie s x).0 ((over x).0 k.0, (k.3.0, k.3.1 ∙ ap (λ (m : ℕ). m + k.3.0 * n) same)),
        λ t.
            let l = (steps_lie s x).1 t in
            ((over x).1 l.0, p.0, least, l.1),
      );
      marks = (λ k. absurd k, λ e. absurd (false≢true e));
      within = λ x k. let l = (over x).0 k.0 in (le_trans h.low l.0, le_trans l.1 end.1);
      some = inl (p.0, ((over p.0).1 (le_refl p.0, end.0), p.0, least, (0, omega arith)));
    }

stepped_is : (u : TimeUnit) (b : Base) (n : ℕ) → IsUnit u → ItemIs u (stepped b n) (denoted_by u (stepped b n))
stepped_is u b n h =
    elim (cases_eq n 0) [
      | inl e ↦ rw (eq-eqb n 0 e) (by_zero e)
      | inr d ↦ elim (cases_lt u.greatest n) [
        | inl l ↦ rw (ne_eqb n 0 d, lt-ltb u.greatest n l) (by_step l)
        | inr g ↦ rw (ne_eqb n 0 d, le-ltb u.greatest n g) (nth_is u b n (ends u b) (omega (arith, d)) g (base_is u b h))
      ]
    ]

name_is : (u : TimeUnit) (w : List ℕ) (b : Bool) (o : Option ℕ) → means_last_day u w ≡ b → ordinal_of u w ≡ o → IfSome o (IsBetween u.least u.greatest)
    → ItemIs u (name w) (cond b (Ok the_last_day) (of_steps (one_ordinal (found_name w o))))
name_is u w true o e f h =
    record {
      lies = λ x. (λ k. absurd (false≢true (sym k.0 ∙ e)), λ t. absurd (false≢true t));
      marks = (λ k. refl, λ t. e);
      within = λ x k. absurd (false≢true (sym k.0 ∙ e));
      some = inr e;
    }
name_is u w false None e f h = unknown e f
name_is u w false (Some n) e f h =
    let s : Progression = record { first = n; last = n; every = 1 } in
    record {
      lies = λ x. (
        λ k.
            let same = some_same x n (sym k.1 ∙ f) in
            (steps_lie s x).0 ((omega arith, omega arith), (0, omega arith)),
        λ t.
            let l = ((steps_lie s x).1 t).0 in
            let same : n ≡ x = omega (arith, l.0, l.1) in
            (e, f ∙ ap Some same),
      );
      marks = (λ k. absurd (false≢true (sym e ∙ k)), λ t. absurd (false≢true t));
      within = λ x k. let same = some_same x n (sym k.1 ∙ f) in (omega (arith, h.0), omega (arith, h.1));
      some = inl (n, (e, f));
    }

item_is : (u : TimeUnit) (i : Item) → IsUnit u → ItemIs u i (denoted_by u i)
item_is u (plain b) h = plain_is u b (ends u b) (base_is u b h)
item_is u (stepped b n) h = stepped_is u b n h
item_is u (name w) h = name_is u w (means_last_day u w) (ordinal_of u w) refl refl (ordinal_within u w h)

item_refused : (u : TimeUnit) (i : Item) (r : Refusal) → IsUnit u → IsRefusedFor u i r → denoted_by u i ≡ Err r
item_refused u (plain b) r h (by_base k) = ap (λ (q : Result (ℕ × ℕ) Refusal). of_steps (each_of q)) (base_refused u b r h k)
item_refused u (stepped b n) r h (by_zero e) = rw (eq-eqb n 0 e) refl
item_refused u (stepped b n) r h (by_step l) = rw (ne_eqb n 0 (λ e. omega arith), lt-ltb u.greatest n l) refl
item_refused u (stepped b n) r h (by_stepped some fits k) =
    rw (ne_eqb n 0 (λ e. omega arith), le-ltb u.greatest n fits)
    (ap (λ (q : Result (ℕ × ℕ) Refusal). of_steps (every_nth u b n q)) (base_refused u b r h k))
item_refused u (name w) r h (unknown e f) = rw (e, f) refl

-- ---- both ways

by_result : (u : TimeUnit) (i : Item) (o q : Result Denoted Refusal) → o ≡ q → ItemIs u i o → ItemIs u i q
by_result u i o q e h = subst (ItemIs u i) e h

-- an item is denoted by what the code finds
pub denoted : (u : TimeUnit) (i : Item) (d : Denoted) → IsUnit u → denoted_by u i ≡ Ok d → IsDenotedAs u i d
denoted u i d h e = by_result u i (denoted_by u i) (Ok d) e (item_is u i h)

-- and refused for what it finds
pub refused : (u : TimeUnit) (i : Item) (r : Refusal) → IsUnit u → denoted_by u i ≡ Err r → IsRefusedFor u i r
refused u i r h e = by_result u i (denoted_by u i) (Err r) e (item_is u i h)

err_same : (o : Result Denoted Refusal) (q r : Refusal) → o ≡ Err q → o ≡ Err r → q ≡ r
err_same o q r e f = cc

no_ok : (o : Result Denoted Refusal) (d : Denoted) (r : Refusal) → o ≡ Ok d → o ≡ Err r → ⊥
no_ok o d r e f = cc

-- An item is refused for one thing at most.
pub refused_once : (u : TimeUnit) (i : Item) (q r : Refusal) → IsUnit u → IsRefusedFor u i q → IsRefusedFor u i r → q ≡ r
refused_once u i q r h j k = err_same (denoted_by u i) q r (item_refused u i q h j) (item_refused u i r h k)

pub unrefused : (u : TimeUnit) (i : Item) (d : Denoted) → IsUnit u → denoted_by u i ≡ Ok d → IsUnrefused u i
unrefused u i d h e r k = no_ok (denoted_by u i) d r e (item_refused u i r h k)

-- the item denotes, or it is refused
pub data Outcome (u : TimeUnit) (i : Item) : Type 0 where
  denotes : (d : Denoted) → denoted_by u i ≡ Ok d → IsDenotedAs u i d → Outcome u i
  refuses : (r : Refusal) → IsRefusedFor u i r → Outcome u i

pub outcome : (u : TimeUnit) (i : Item) → IsUnit u → Outcome u i
outcome u i h = by_found (denoted_by u i) refl where
  by_found : (o : Result Denoted Refusal) → denoted_by u i ≡ o → Outcome u i
  by_found (Ok d) e = denotes d e (denoted u i d h e)
  by_found (Err r) e = refuses r (refused u i r h e)
