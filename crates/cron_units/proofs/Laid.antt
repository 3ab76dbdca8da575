-- What is done to the places of a set, as what is done to the set.
use Rattle.std.proofs.Common.{◌≡◌, ℕ, ◌+◌, ◌-◌, ◌<◌, ◌≤◌, pos, Bool, true, false, ◌&&◌, ◌||◌, min, List, Some, None, refl, sym, ap, ◌∙◌, arith, inl, inr}
use Rattle.std.specs.Prelude.{filter, length, nat_le, nat_lt, nat_eq}
use Rattle.std.specs.List.{range_with_len}
use Rattle.std.proofs.Math.Bool.{or-false}
use Rattle.std.proofs.lemmas.Bool.{cases_lt, cases_eq, le-leb, lt-leb, lt-ltb, le-ltb, leb-true, ltb-true, eq-eqb, ne_eqb, and_right, and_parts, or_from}
use Rattle.std.proofs.lemmas.Bool.Decides.{nat_tests}
use Rattle.std.proofs.lemmas.Int.{ints}
use Rattle.cron_units.specs.Nearest.{IsNearest}
use Rattle.cron_units.specs.declared.way.Way.TheVariants.{Ahead, Back}
use Rattle.cron_units.specs.Units.{TimeUnit, contains, set_of, IsSet}
use Rattle.cron_bits.specs.Words.{count_below}
use Rattle.cron_units.specs.Places.{listed, placed, NonePast}
use Rattle.cron_units.proofs.SetLemmas.{set_same, filter_same_in, filter_none}
use Rattle.cron_bits.proofs.LongerLemmas.{count_shift, count_split}
use Rattle.cron_units.proofs.PlaceLemmas.{placed_or, placed_contains, placed_at}

same_place : (least x o : ℕ) → least ≤ x → least ≤ o → nat_eq (x - least) (o - least) ≡ nat_eq x o
same_place least x o l g = elim (cases_eq x o) [
  | inl e ↦ rw (eq-eqb x o e, eq-eqb (x - least) (o - least) (ap (λ (n : ℕ). n - least) e)) refl
  | inr d ↦ rw (ne_eqb x o d, ne_eqb (x - least) (o - least) (λ e. d (omega arith))) refl
]

add_zero : (n : ℕ) → n + 0 ≡ n
add_zero n = omega arith

places : (least k : ℕ) → 0 + k ≡ least + k - least
places least k = omega arith

-- One more place is one more member.
pub one_more : (u : TimeUnit) (taken more : ℕ → Bool) (xs : List ℕ) (o least : ℕ) → placed u taken ≡ xs → least ≡ u.least → u.least ≤ o
    → ((k : ℕ) → more k ≡ (taken k || nat_eq k (o - least))) → placed u more ≡ set_of u (λ x. contains xs x || nat_eq x o)
one_more u taken more xs o least is e low bits =
    placed_or u taken more (λ x. nat_eq x o) (λ x l g.
    bits (x - u.least) ∙ ap (λ (b : Bool). taken (x - u.least) || b) (ap (λ (n : ℕ). nat_eq (x - u.least) (o - n)) e ∙ same_place u.least x o l low))
    ∙ ap (λ (ys : List ℕ). set_of u (λ x. contains ys x || nat_eq x o)) is

pub one_more_past : (u : TimeUnit) (taken more : ℕ → Bool) (o least : ℕ) → NonePast u taken → least ≡ u.least → u.least ≤ o → o ≤ u.greatest
    → ((k : ℕ) → more k ≡ (taken k || nat_eq k (o - least))) → NonePast u more
one_more_past u taken more o least none e low high bits k l =
    bits k ∙ or_from (taken k) (nat_eq k (o - least)) (none k l) (ne_eqb k (o - least) (λ i. omega arith))

-- ---- a range of places

range_test : (least first last size x : ℕ) → least ≤ x → least ≤ first → first ≤ last → x < least + size
    → (nat_lt (x - least) (last - least + 1) && (nat_le (first - least) (x - least) && nat_lt (x - least) size)) ≡ (nat_le first x && nat_le x last)
range_test least first last size x l g h j = grind (arith, nat_tests)

pub range_bits : (first last size : ℕ) (full from range : ℕ → Bool) → ((k : ℕ) → full k ≡ nat_lt k size) → ((k : ℕ) → from k ≡ (nat_le first k && full k))
    → ((k : ℕ) → range k ≡ (nat_lt k last && from k)) → (k : ℕ) → range k ≡ (nat_lt k last && (nat_le first k && nat_lt k size))
range_bits first last size full from range h j i k = rw (i k, j k, h k) refl

pub range_more : (u : TimeUnit) (taken range more : ℕ → Bool) (xs : List ℕ) (first last least size : ℕ) → placed u taken ≡ xs → least ≡ u.least
    → u.least ≤ first → first ≤ last → u.greatest < u.least + size
    → ((k : ℕ) → range k ≡ (nat_lt k (last - least + 1) && (nat_le (first - least) k && nat_lt k size))) → ((k : ℕ) → more k ≡ (taken k || range k))
    → placed u more ≡ set_of u (λ x. contains xs x || (nat_le first x && nat_le x last))
range_more u taken range more xs first last least size is e low order fits bits joined =
    placed_or u taken more (λ x. nat_le first x && nat_le x last) (λ x l g.
    joined (x - u.least) ∙ ap (λ (b : Bool). taken (x - u.least) || b)
    (bits (x - u.least) ∙ (ap (λ (n : ℕ). nat_lt (x - u.least) (last - n + 1) && (nat_le (first - n) (x - u.least) && nat_lt (x - u.least) size)) e
    ∙ range_test u.least first last size x l low order (omega arith))))
    ∙ ap (λ (ys : List ℕ). set_of u (λ x. contains ys x || (nat_le first x && nat_le x last))) is

pub range_past : (u : TimeUnit) (taken inner range more : ℕ → Bool) (last least : ℕ) → NonePast u taken → u.least ≤ u.greatest → least ≡ u.least
    → last ≤ u.greatest → ((k : ℕ) → range k ≡ (nat_lt k (last - least + 1) && inner k)) → ((k : ℕ) → more k ≡ (taken k || range k)) → NonePast u more
range_past u taken inner range more last least none ordered e high bits joined k l =
    joined k ∙ or_from (taken k) (range k) (none k l) (bits k ∙ rw (le-ltb k (last - least + 1) (omega arith)) refl)

-- A range that ends before it begins adds nothing.
pub empty_test : (first last x : ℕ) → last < first → (nat_le first x && nat_le x last) ≡ false
empty_test first last x l = grind (arith, nat_tests)

pub range_empty : (u : TimeUnit) (xs : List ℕ) (first last : ℕ) → IsSet u xs → last < first
    → xs ≡ set_of u (λ x. contains xs x || (nat_le first x && nat_le x last))
range_empty u xs first last set l =
    set ∙ set_same u (contains xs) (λ x. contains xs x || (nat_le first x && nat_le x last))
    (λ x a b. sym (ap (λ (t : Bool). contains xs x || t) (empty_test first last x l) ∙ or-false (contains xs x)))

-- ---- the nearest member

pub holds : (u : TimeUnit) (taken : ℕ → Bool) (xs : List ℕ) (x : ℕ) → u.least ≤ u.greatest → NonePast u taken → placed u taken ≡ xs
    → contains xs x ≡ (nat_le u.least x && taken (x - u.least))
holds u taken xs x ordered none is = ap (λ (ys : List ℕ). contains ys x) (sym is) ∙ placed_contains u taken x ordered none

pub holds_at : (u : TimeUnit) (taken : ℕ → Bool) (xs : List ℕ) (k : ℕ) → u.least ≤ u.greatest → NonePast u taken → placed u taken ≡ xs → taken k ≡ true
    → contains xs (u.least + k) ≡ true
holds_at u taken xs k ordered none is h = ap (λ (ys : List ℕ). contains ys (u.least + k)) (sym is) ∙ (placed_at u taken k ordered none ∙ h)

-- what isn't kept by a test that is true isn't taken
untaken : (kept test taken : Bool) → kept ≡ (test && taken) → test ≡ true → kept ≡ false → taken ≡ false
untaken kept test taken e t h = sym (ap (λ (b : Bool). b && taken) t) ∙ (sym e ∙ h)

not_held : (u : TimeUnit) (taken : ℕ → Bool) (xs : List ℕ) (x : ℕ) → u.least ≤ u.greatest → NonePast u taken → placed u taken ≡ xs
    → (u.least ≤ x → taken (x - u.least) ≡ false) → contains xs x ≡ false
not_held u taken xs x ordered none is h = holds u taken xs x ordered none is ∙ elim (cases_lt x u.least) [
  | inl l ↦ rw (lt-leb u.least x l) refl
  | inr g ↦ and_right (nat_le u.least x) (taken (x - u.least)) (h g)
]

pub ahead_none : (u : TimeUnit) (taken kept : ℕ → Bool) (xs : List ℕ) (from place : ℕ) → u.least ≤ u.greatest → NonePast u taken → placed u taken ≡ xs
    → place ≡ from - u.least → ((k : ℕ) → kept k ≡ (nat_le place k && taken k)) → ((k : ℕ) → kept k ≡ false) → IsNearest Ahead (contains xs) (pos from) None
ahead_none u taken kept xs from place ordered none is e bits h k l =
    let past : from ≤ k = omega (arith, ints, l) in
    not_held u taken xs k ordered none is (λ g. untaken (kept (k - u.least)) (nat_le place (k - u.least)) (taken (k - u.least)) (bits (k - u.least))
    (le-leb place (k - u.least) (omega arith)) (h (k - u.least)))

pub ahead_some : (u : TimeUnit) (taken kept : ℕ → Bool) (xs : List ℕ) (from place n i : ℕ) → u.least ≤ u.greatest → NonePast u taken → placed u taken ≡ xs
    → place ≡ from - u.least → n ≡ u.least + i → ((k : ℕ) → kept k ≡ (nat_le place k && taken k)) → kept i ≡ true → ((k : ℕ) → k < i → kept k ≡ false)
    → IsNearest Ahead (contains xs) (pos from) (Some n)
ahead_some u taken kept xs from place n i ordered none is e at bits here before =
    let both : (nat_le place i ≡ true) × (taken i ≡ true) = and_parts (nat_le place i) (taken i) (sym (bits i) ∙ here) in
    let past : place ≤ i = leb-true place i both.0 in record {
      passes = ap (contains xs) at ∙ holds_at u taken xs i ordered none is both.1;
      lies = omega (arith, ints);
      nearest = λ k l g.
          let start : from ≤ k = omega (arith, ints, l) in
          not_held u taken xs k ordered none is (λ h. untaken (kept (k - u.least)) (nat_le place (k - u.least)) (taken (k - u.least)) (bits (k - u.least))
          (le-leb place (k - u.least) (omega arith)) (before (k - u.least) (omega (arith, g, at))));
    }

pub back_before : (u : TimeUnit) (taken : ℕ → Bool) (xs : List ℕ) (from : ℕ) → u.least ≤ u.greatest → NonePast u taken → placed u taken ≡ xs
    → from < u.least → IsNearest Back (contains xs) (pos from) None
back_before u taken xs from ordered none is low k l =
    let past : k ≤ from = omega (arith, ints, l) in not_held u taken xs k ordered none is (λ g. absurd (omega arith))

-- the places up to the last that a search back looks at
back_untaken : (u : TimeUnit) (taken kept : ℕ → Bool) (from end k : ℕ) → NonePast u taken → u.least ≤ from → end ≡ min from u.greatest - u.least + 1
    → ((k : ℕ) → kept k ≡ (nat_lt k end && taken k)) → u.least ≤ k → k ≤ from → kept (k - u.least) ≡ false → taken (k - u.least) ≡ false
back_untaken u taken kept from end k none low e bits l g h = elim (cases_lt u.greatest k) [
  | inl past ↦ none (k - u.least) (omega arith)
  | inr within ↦ untaken (kept (k - u.least)) (nat_lt (k - u.least) end) (taken (k - u.least)) (bits (k - u.least)) (lt-ltb (k - u.least) end (omega arith)) h
]

pub back_none : (u : TimeUnit) (taken kept : ℕ → Bool) (xs : List ℕ) (from end : ℕ) → u.least ≤ u.greatest → NonePast u taken → placed u taken ≡ xs
    → u.least ≤ from → end ≡ min from u.greatest - u.least + 1 → ((k : ℕ) → kept k ≡ (nat_lt k end && taken k)) → ((k : ℕ) → kept k ≡ false)
    → IsNearest Back (contains xs) (pos from) None
back_none u taken kept xs from end ordered none is low e bits h k l =
    let past : k ≤ from = omega (arith, ints, l) in
    not_held u taken xs k ordered none is (λ g. back_untaken u taken kept from end k none low e bits g past (h (k - u.least)))

pub back_some : (u : TimeUnit) (taken kept : ℕ → Bool) (xs : List ℕ) (from end n i : ℕ) → u.least ≤ u.greatest → NonePast u taken → placed u taken ≡ xs
    → u.least ≤ from → end ≡ min from u.greatest - u.least + 1 → n ≡ u.least + i → ((k : ℕ) → kept k ≡ (nat_lt k end && taken k)) → kept i ≡ true
    → ((k : ℕ) → i < k → kept k ≡ false) → IsNearest Back (contains xs) (pos from) (Some n)
back_some u taken kept xs from end n i ordered none is low e at bits here after =
    let both : (nat_lt i end ≡ true) × (taken i ≡ true) = and_parts (nat_lt i end) (taken i) (sym (bits i) ∙ here) in
    let past : i < end = ltb-true i end both.0 in record {
      passes = ap (contains xs) at ∙ holds_at u taken xs i ordered none is both.1;
      lies = omega (arith, ints);
      nearest = λ k l g.
          let start : k ≤ from = omega (arith, ints, l) in
          not_held u taken xs k ordered none is (λ h. back_untaken u taken kept from end k none low e bits h start
          (after (k - u.least) (omega (arith, g, at))));
    }

-- ---- how many members

none_counted : (p : ℕ → Bool) (a n : ℕ) → ((x : ℕ) → a ≤ x → p x ≡ false) → length (filter p (range_with_len a n)) ≡ 0
none_counted p a n none =
    ap length (filter_same_in p (λ x. false) a n (λ x l g. none x l)) ∙ ap length (filter_none (λ x. false) (range_with_len a n) (λ x. refl))

pub placed_count : (u : TimeUnit) (taken : ℕ → Bool) (xs : List ℕ) (size : ℕ) → u.least ≤ u.greatest → NonePast u taken → u.greatest < u.least + size
    → placed u taken ≡ xs → count_below taken size ≡ length xs
unfolding count_below listed
placed_count u taken xs size ordered none fits is =
    let n : ℕ = u.greatest + 1 - u.least in
    let split : size ≡ n + (size - n) = omega arith in
    ap (λ (m : ℕ). length (filter taken (range_with_len 0 m))) split ∙ (count_split taken 0 n (size - n)
    ∙ (ap (λ (m : ℕ). length (filter taken (range_with_len 0 n)) + m) (none_counted taken (0 + n) (size - n) (λ x l. none x (omega arith)))
    ∙ (add_zero (length (filter taken (range_with_len 0 n)))
    ∙ (count_shift taken (λ x. taken (x - u.least)) 0 u.least n (λ k l. ap taken (places u.least k)) ∙ ap length is))))
