-- The names of a unit.
use Rattle.std.proofs.Common.{◌≡◌, ℕ, ◌<◌, ◌≤◌, Bool, true, false, ◌&&◌, cond, List, [], ◌∷◌, Option, Some, None, refl, sym, ap, ◌∙◌, subst, arith, Bor, length, get_or, nat_eq, nat_lt, inl, inr}
use Rattle.std.specs.Prelude.{IfSome}
use Rattle.std.specs.List.{AllByRecursion, list_all}
use Rattle.std.specs.Option.{option_map}
use Rattle.std.specs.Str.{str_eq_ignore_ascii_case, str_to_ascii_lowercase}
use Rattle.std.proofs.lemmas.Bool.{cases_eq, cases_lt, eq-eqb, eqb-true, ne_eqb, false_from_ne_true, true_from_ne_false, ltb-true, true≢false}
use Rattle.std.proofs.lemmas.List.Folds.{list_all_at}
use Rattle.std.proofs.lemmas.Slice.Eq.{bytes_eq-Decides}
use Rattle.cron_units.specs.Keys.{is_letter, key_of, slot_of, IsKey}
use Rattle.cron_units.specs.Tables.{definition_view, names_view, ordinals_view, keyed_in, is_just, is_slotted, are_keyed}
use Rattle.cron_units.specs.Units.{TimeUnit, IsUnit, Names, named_in, named_by, named_ordinals, ordinal_of}
use Rattle.cron_units.specs.declared.time_unit.names.Names as table
use Rattle.cron_units.specs.declared.time_unit.definition.Definition.{Definition}
use Rattle.cron_units.proofs.KeyLemmas.{key_injective, lower_key, lower_letters}

within_cond : (b : Bool) (P : ℕ → Type 0) (n : ℕ) (o : Option ℕ) → P n → IfSome o P → IfSome (cond b (Some n) o) P
within_cond true P n o h k = h
within_cond false P n o h k = k

named_within : (P : ℕ → Type 0) (es : List (List ℕ × ℕ)) (sought : List ℕ) → AllByRecursion (λ e. P e.1) es → IfSome (named_in es sought) P
named_within P [] sought h = tt
named_within P (e ∷ es) sought h =
    within_cond (str_eq_ignore_ascii_case e.0 sought) P e.1 (named_in es sought) h.0 (named_within P es sought h.1)

named_by_within : (P : ℕ → Type 0) (names : Option Names) (sought : List ℕ) → AllByRecursion (λ e. P e.1) (named_ordinals names)
    → IfSome (named_by names sought) P
named_by_within P None sought h = tt
named_by_within P (Some names) sought h = named_within P names.ordinals sought h

-- What a name stands for is an ordinal of the unit.
pub ordinal_within : (u : TimeUnit) (sought : List ℕ) → IsUnit u → IfSome (ordinal_of u sought) (λ n. (u.least ≤ n) × (n ≤ u.greatest))
ordinal_within u sought h = named_by_within (λ n. (u.least ≤ n) × (n ≤ u.greatest)) u.names sought h.names

keyed_within : (P : ℕ → Type 0) (es : List (Bor (List ℕ) × ℕ)) (k : ℕ) → AllByRecursion (λ e. P e.1) (ordinals_view es) → IfSome (keyed_in es k) P
keyed_within P [] k h = tt
keyed_within P (e ∷ es) k h = within_cond (nat_eq (key_of e.0.now) k) P e.1 (keyed_in es k) h.0 (keyed_within P es k h.1)

-- What a key stands for is an ordinal of the unit.
pub key_within : (u : TimeUnit) (d : Definition) (names : table.Names) (k : ℕ) (o : Option ℕ) → IsUnit u → definition_view d ≡ u → d.names ≡ Some names
    → IfSome o (λ n. keyed_in names.ordinals.now k ≡ Some n) → IfSome o (λ n. (u.least ≤ n) × (n ≤ u.greatest))
key_within u d names k None is e was h = tt
key_within u d names k (Some n) is e was h =
    let same : named_ordinals u.names ≡ ordinals_view names.ordinals.now =
    ap (λ (v : TimeUnit). named_ordinals v.names) (sym e) ∙ ap (λ (o : Option table.Names). named_ordinals (option_map names_view o)) was in
    let all = subst (AllByRecursion (λ x. (u.least ≤ x.1) × (x.1 ≤ u.greatest))) same is.names in
    subst (λ (o : Option ℕ). IfSome o (λ m. (u.least ≤ m) × (m ≤ u.greatest))) h
    (keyed_within (λ m. (u.least ≤ m) × (m ≤ u.greatest)) names.ordinals.now k all)

-- ---- names by their keys

both : (a b : Bool) → (a && b) ≡ true → (a ≡ true) × (b ≡ true)
both true b h = (refl, h)
both false b h = absurd cc

eq_lower : (a b : List ℕ) → str_eq_ignore_ascii_case a b ≡ true → str_to_ascii_lowercase a ≡ str_to_ascii_lowercase b
eq_lower a b h = (bytes_eq-Decides (str_to_ascii_lowercase a) (str_to_ascii_lowercase b)).0 h

lower_eq : (a b : List ℕ) → str_to_ascii_lowercase a ≡ str_to_ascii_lowercase b → str_eq_ignore_ascii_case a b ≡ true
lower_eq a b h = (bytes_eq-Decides (str_to_ascii_lowercase a) (str_to_ascii_lowercase b)).1 h

-- names of letters are the same but for the case of their letters exactly where they have one key
same_by_key : (a b : List ℕ) → list_all is_letter a ≡ true → list_all is_letter b ≡ true → str_eq_ignore_ascii_case a b ≡ nat_eq (key_of a) (key_of b)
same_by_key a b p q = elim (cases_eq (key_of a) (key_of b)) [
  | inl e ↦ lower_eq a b (key_injective a b p q e) ∙ sym (eq-eqb (key_of a) (key_of b) e)
  | inr d ↦
      let one_key : str_eq_ignore_ascii_case a b ≡ true → key_of a ≡ key_of b =
      λ h. sym (lower_key 0 a) ∙ (ap key_of (eq_lower a b h) ∙ lower_key 0 b) in
      false_from_ne_true (str_eq_ignore_ascii_case a b) (λ h. d (one_key h)) ∙ sym (ne_eqb (key_of a) (key_of b) d)
]

-- the parts of what a table keeps to
slotted : (slots : List (ℕ × ℕ)) (spread : ℕ) (e : Bor (List ℕ) × ℕ) → is_slotted slots spread e ≡ true
    → (list_all is_letter e.0.now ≡ true) × (key_of e.0.now < 36028797018963968)
    × ((get_or slots (slot_of spread (key_of e.0.now)) (0, 0)).0 ≡ key_of e.0.now)
slotted slots spread e h =
    let k = key_of e.0.now in
    let h1 = both (list_all is_letter e.0.now && nat_lt k 36028797018963968) (nat_eq (get_or slots (slot_of spread k) (0, 0)).0 k) h in
    let h2 = both (list_all is_letter e.0.now) (nat_lt k 36028797018963968) h1.0 in
    (h2.0, ltb-true k 36028797018963968 h2.1, eqb-true (get_or slots (slot_of spread k) (0, 0)).0 k h1.1)

-- a name of letters is looked up by its key
named_keyed : (slots : List (ℕ × ℕ)) (spread : ℕ) (names : List (Bor (List ℕ) × ℕ)) (w : List ℕ) → list_all (is_slotted slots spread) names ≡ true
    → list_all is_letter w ≡ true → named_in (ordinals_view names) w ≡ keyed_in names (key_of w)
named_keyed slots spread [] w h l = refl
named_keyed slots spread (e ∷ es) w h l =
    let parts = both (is_slotted slots spread e) (list_all (is_slotted slots spread) es) h in
    let same = same_by_key e.0.now w (slotted slots spread e parts.0).0 l in
    rw (same, named_keyed slots spread es w parts.1 l) refl

-- a name that is not of letters is none of them
pub named_none : (slots : List (ℕ × ℕ)) (spread : ℕ) (names : List (Bor (List ℕ) × ℕ)) (w : List ℕ) → list_all (is_slotted slots spread) names ≡ true
    → list_all is_letter w ≡ false → named_in (ordinals_view names) w ≡ None
named_none slots spread [] w h l = refl
named_none slots spread (e ∷ es) w h l =
    let parts = both (is_slotted slots spread e) (list_all (is_slotted slots spread) es) h in
    let letters : str_eq_ignore_ascii_case e.0.now w ≡ true → list_all is_letter w ≡ true =
    λ same. sym (lower_letters w) ∙ (ap (list_all is_letter) (sym (eq_lower e.0.now w same)) ∙ (lower_letters e.0.now
    ∙ (slotted slots spread e parts.0).0)) in
    let other : str_eq_ignore_ascii_case e.0.now w ≡ false =
    false_from_ne_true (str_eq_ignore_ascii_case e.0.now w) (λ same. true≢false (sym (letters same) ∙ l)) in
    rw (other, named_none slots spread es w parts.1 l) refl

-- a key that isn't in its slot is no name's
keyed_none : (slots : List (ℕ × ℕ)) (spread : ℕ) (names : List (Bor (List ℕ) × ℕ)) (k : ℕ) → list_all (is_slotted slots spread) names ≡ true
    → ((get_or slots (slot_of spread k) (0, 0)).0 ≡ k → ⊥) → keyed_in names k ≡ None
keyed_none slots spread [] k h other = refl
keyed_none slots spread (e ∷ es) k h other =
    let parts = both (is_slotted slots spread e) (list_all (is_slotted slots spread) es) h in
    let there = (slotted slots spread e parts.0).2 in
    let differs : key_of e.0.now ≡ k → ⊥ =
    λ same. other (subst (λ n. (get_or slots (slot_of spread n) (0, 0)).0 ≡ n) same there) in
    rw (ne_eqb (key_of e.0.now) k differs, keyed_none slots spread es k parts.1 other) refl

-- nor is a long one
keyed_long : (slots : List (ℕ × ℕ)) (spread : ℕ) (names : List (Bor (List ℕ) × ℕ)) (k : ℕ) → list_all (is_slotted slots spread) names ≡ true
    → 36028797018963968 ≤ k → keyed_in names k ≡ None
keyed_long slots spread [] k h long = refl
keyed_long slots spread (e ∷ es) k h long =
    let parts = both (is_slotted slots spread e) (list_all (is_slotted slots spread) es) h in
    let short = (slotted slots spread e parts.0).1 in
    rw (ne_eqb (key_of e.0.now) k (λ same. omega (arith, same, short, long)), keyed_long slots spread es k parts.1 long) refl

just : (o : Option ℕ) (n : ℕ) → is_just o n ≡ true → o ≡ Some n
just None n h = absurd cc
just (Some m) n h = ap Some (eqb-true m n h)

passes : (p : ℕ × ℕ → Bool) (xs : List (ℕ × ℕ)) (i : ℕ) (d : ℕ × ℕ) → i < length xs → list_all p xs ≡ true → p (get_or xs i d) ≡ true
passes p xs i d l h = true_from_ne_false (p (get_or xs i d)) (λ no. true≢false (sym h ∙ list_all_at p xs i d l no))

-- what a table keeps to
pub tests : (n : table.Names) → are_keyed n ≡ true
    → (length n.slots.now ≡ 32) × (list_all (is_slotted n.slots.now n.spread) n.ordinals.now ≡ true)
    × (list_all (λ s. is_just (keyed_in n.ordinals.now s.0) s.1) n.slots.now ≡ true)
tests n h =
    let a = both (nat_eq (length n.slots.now) 32 && list_all (is_slotted n.slots.now n.spread) n.ordinals.now)
    (list_all (λ s. is_just (keyed_in n.ordinals.now s.0) s.1) n.slots.now) h in
    let b = both (nat_eq (length n.slots.now) 32) (list_all (is_slotted n.slots.now n.spread) n.ordinals.now) a.0 in
    (eqb-true (length n.slots.now) 32 b.0, b.1, a.1)

-- the slot of a name has its key
pub found_by_key : (n : table.Names) (w : List ℕ) (key : ℕ) (d : ℕ × ℕ) → are_keyed n ≡ true → list_all is_letter w ≡ true → IsKey w key
    → slot_of n.spread key < 32 → (get_or n.slots.now (slot_of n.spread key) d).0 ≡ key
    → Some (get_or n.slots.now (slot_of n.spread key) d).1 ≡ named_in (ordinals_view n.ordinals.now) w
found_by_key n w key d keyed letters is within found =
    let t = tests n keyed in
    let slot = get_or n.slots.now (slot_of n.spread key) d in
    let hit : keyed_in n.ordinals.now slot.0 ≡ Some slot.1 =
    just (keyed_in n.ordinals.now slot.0) slot.1
    (passes (λ s. is_just (keyed_in n.ordinals.now s.0) s.1) n.slots.now (slot_of n.spread key) d (omega (arith, within, t.0)) t.2) in
    let here : keyed_in n.ordinals.now key ≡ Some slot.1 = ap (keyed_in n.ordinals.now) (sym found) ∙ hit in
    sym (named_keyed n.slots.now n.spread n.ordinals.now w t.1 letters ∙ elim (cases_lt (key_of w) 36028797018963968) [
      | inl small ↦ ap (keyed_in n.ordinals.now) (sym (is.same small)) ∙ here
      | inr large ↦
          let none : keyed_in n.ordinals.now key ≡ None = keyed_long n.slots.now n.spread n.ordinals.now key t.1 (is.past large) in
          absurd (let clash : Some slot.1 ≡ None = sym here ∙ none in cc)
    ])

-- the slot has another key
pub missed_by_key : (n : table.Names) (w : List ℕ) (key : ℕ) → are_keyed n ≡ true → list_all is_letter w ≡ true → IsKey w key
    → ((get_or n.slots.now (slot_of n.spread key) (0, 0)).0 ≡ key → ⊥) → None ≡ named_in (ordinals_view n.ordinals.now) w
missed_by_key n w key keyed letters is other =
    let t = tests n keyed in
    sym (named_keyed n.slots.now n.spread n.ordinals.now w t.1 letters ∙ elim (cases_lt (key_of w) 36028797018963968) [
      | inl small ↦ ap (keyed_in n.ordinals.now) (sym (is.same small)) ∙ keyed_none n.slots.now n.spread n.ordinals.now key t.1 other
      | inr large ↦ keyed_long n.slots.now n.spread n.ordinals.now (key_of w) t.1 large
    ])

-- and the ordinal of a name
pub slot_keyed : (n : table.Names) (key : ℕ) (d : ℕ × ℕ) → are_keyed n ≡ true → slot_of n.spread key < 32
    → (get_or n.slots.now (slot_of n.spread key) d).0 ≡ key → keyed_in n.ordinals.now key ≡ Some (get_or n.slots.now (slot_of n.spread key) d).1
slot_keyed n key d keyed within found =
    let t = tests n keyed in
    let slot = get_or n.slots.now (slot_of n.spread key) d in
    ap (keyed_in n.ordinals.now) (sym found) ∙ just (keyed_in n.ordinals.now slot.0) slot.1
    (passes (λ s. is_just (keyed_in n.ordinals.now s.0) s.1) n.slots.now (slot_of n.spread key) d (omega (arith, within, t.0)) t.2)
