-- In a zone with one offset the order of civil seconds is that of instants.
use Rattle.std.proofs.Common.{◌≡◌, ℕ, zero, suc, ◌+◌, ◌<◌, ◌≤◌, ℤ, pos, ◌+ℤ◌, ◌*ℤ◌, ◌≤ℤ◌, int_le, Bool, true, false, cond, List, [], ◌∷◌, length, Option, Some, None, inl, inr, refl, sym, ap, ◌∙◌, arith, true≢false}
use Rattle.std.specs.Prelude.{slice_get, position, MatchOption}
use Rattle.std.specs.List.{position_from}
use Rattle.std.proofs.lemmas.Bool.{cases_lt}
use Rattle.std.proofs.lemmas.Int.{ints}
use Rattle.std.proofs.lemmas.Iterator.Adapters.{position_from-zero}
use Rattle.jiff_core.proofs.SignedLemmas.{signed_arith}
use Rattle.jiff_core.specs.declared.Offset.{Offset}
use Rattle.jiff_core.specs.Timestamp.{IsTimestampNanos}
use Rattle.jiff_tz.specs.declared.timezone.TimeZone.{TimeZone}
use Rattle.jiff_tz.specs.declared.timezone.TimeZone.TheVariants.{UTC, Unknown, Fixed, Posix, Tzif}
use Rattle.jiff_tz.specs.Zone.{IsFixed, offset_at, ambiguous_at, utc_offset}
use Rattle.cron_time.specs.Walk.Bounds.{bound_ahead, shown_at, is_instant}
use Rattle.cron_moments.specs.Civil.{civil, seconds_in_range}
use Rattle.cron_time.specs.Walk.Cursor.{first_from, go_to, item_at}
use Rattle.cron_time.specs.Walk.FixedLaws.{offset_of, HasOneOffset, IsReadOnce, FixedZonesHaveOneOffset, PlainRulesHaveOneOffset, Shows, IsAfter, IsLeastAfter, FirstIsLeast, NextIsLater}
use Rattle.cron_moments.specs.Readings.{Reading, reading, readings, instant}
use Rattle.cron_time.specs.Seconds as seconds
use Rattle.cron_time.specs.Search.{items_of}
use Rattle.cron_units.specs.Sets.{Sets}
use Rattle.cron_time.specs.Matches.{matches}
use Rattle.cron_time.specs.Timeline.{seconds_of, timeline}
use Rattle.cron_time.proofs.Walks.BoundLemmas.{shown_if_any-some}
use Rattle.cron_time.proofs.PlaceLemmas.{nothing_in_nil}
use Rattle.cron_time.proofs.TimelineLemmas.{before, before-next, before-up, item_in, is_in, stands-high}
use Rattle.cron_time.proofs.TimelineLaws.{never_decrease, items_match}

-- ---- the zone

fixed_shown : (z : TimeZone) (n : ℤ) → IsFixed z → offset_at z n ≡ offset_of z
unfolding offset_at
fixed_shown UTC n h = refl
fixed_shown Unknown n h = refl
fixed_shown (Fixed o) n h = refl
fixed_shown (Posix p) n h = absurd h
fixed_shown (Tzif p) n h = absurd h

fixed_read : (z : TimeZone) (c : ℕ) → IsFixed z → IsReadOnce z (offset_of z) c
unfolding offset_at readings ambiguous_at
fixed_read UTC c h = (utc_offset, refl, refl)
fixed_read Unknown c h = (utc_offset, refl, refl)
fixed_read (Fixed o) c h = (o, refl, refl)
fixed_read (Posix p) c h = absurd h
fixed_read (Tzif p) c h = absurd h

pub fixed_have_one : FixedZonesHaveOneOffset
fixed_have_one z h = record { shown = λ n. fixed_shown z n h; read = λ c below. fixed_read z c h }

pub plain_rules_have_one : PlainRulesHaveOneOffset
unfolding offset_at readings ambiguous_at
plain_rules_have_one rule none = record { shown = λ n. rw none refl; read = λ c below. (rule.std_offset, rw none refl, refl) }

one_item : (s : Sets) (z : TimeZone) (o : ℤ) (c : ℕ) → HasOneOffset z o → c < seconds_in_range → matches s (civil c) ≡ true
    → (at : Offset) × (items_of s z c ≡ reading c at ∷ []) × (at.seconds ≡ o)
unfolding seconds.items_of
one_item s z o c h below m = let one = h.read c below in (one.0, rw m one.1, one.2)

-- ---- the first item from a number on

-- the element at a place that is found passes, and none before it
record IsFirst {A : Type 0} (p : A → Bool) (xs : List A) (i : ℕ) : Type 0 where
  x : A
  here : slice_get xs i ≡ Some x
  passes : p x ≡ true
  first : (k : ℕ) (y : A) → k < i → slice_get xs k ≡ Some y → p y ≡ false

module _ {A : Type 0} (p : A → Bool) where
  none_passes : (n : ℕ) (xs : List A) → position_from p n xs ≡ None → (k : ℕ) (y : A) → slice_get xs k ≡ Some y → p y ≡ false
  none_passes n [] e k y at = absurd (nothing_in_nil k y at)
  none_passes n (x ∷ xs) e zero y at = head (p x) refl e
    where
      head : (b : Bool) → p x ≡ b → cond b (Some n) (position_from p (n + 1) xs) ≡ None → p y ≡ false
      head true is g = cc
      head false is g = cc
  none_passes n (x ∷ xs) e (suc k) y at = none_passes (n + 1) xs (tail (p x) e) k y at
    where
      tail : (b : Bool) → cond b (Some n) (position_from p (n + 1) xs) ≡ None → position_from p (n + 1) xs ≡ None
      tail true g = cc
      tail false g = g

  some_passes : (n : ℕ) (xs : List A) (i : ℕ) → position_from p n xs ≡ Some i → (j : ℕ) × (i ≡ n + j) × IsFirst p xs j
  some_passes n [] i e = absurd (nothing_in_nil 0 i e)
  some_passes n (x ∷ xs) i e = by_head (p x) refl e (λ g. some_passes (n + 1) xs i g)
    where
      by_head : (b : Bool) → p x ≡ b → cond b (Some n) (position_from p (n + 1) xs) ≡ Some i
          → (position_from p (n + 1) xs ≡ Some i → (j : ℕ) × (i ≡ n + 1 + j) × IsFirst p xs j) → (j : ℕ) × (i ≡ n + j) × IsFirst p (x ∷ xs) j
      by_head true is g more =
          let same : n ≡ i = cc in
          (0, omega arith, record { x = x; here = refl; passes = is; first = λ k y lt at. absurd (omega arith) })
      by_head false is g more =
          let rest = more g in (
            suc rest.0,
            let e = rest.1 in omega arith,
            record {
              x = rest.2.x;
              here = rest.2.here;
              passes = rest.2.passes;
              first = λ k y lt at. later rest.0 rest.2 k y lt at;
            },
          )
        where
          later : (j : ℕ) → IsFirst p xs j → (k : ℕ) (y : A) → k < suc j → slice_get (x ∷ xs) k ≡ Some y → p y ≡ false
          later j f zero y lt at = cc
          later j f (suc k) y lt at = f.first k y (omega arith) at

-- ---- instants

-- what is shown one second after t, against a second n that shows c
bound_is : (z : TimeZone) (o t n : ℤ) (c : ℕ) → HasOneOffset z o → n +ℤ o ≡ pos c → IsAfter t n → shown_at z (t +ℤ pos 1_000_000_000) ≤ℤ pos c
bound_is z o t n c h is after =
    rw (h.shown (t +ℤ pos 1_000_000_000)) (omega (arith, signed_arith))

bound_back_is : (z : TimeZone) (o t n : ℤ) (c : ℕ) → HasOneOffset z o → n +ℤ o ≡ pos c → shown_at z (t +ℤ pos 1_000_000_000) ≤ℤ pos c → IsAfter t n
bound_back_is z o t n c h is low =
    let shown = rw (h.shown (t +ℤ pos 1_000_000_000)) at low in
    omega (arith, signed_arith)

-- the offset of an item
item_offset : (s : Sets) (z : TimeZone) (o : ℤ) (i : ℕ) (r : Reading) → HasOneOffset z o → slice_get (timeline s z) i ≡ Some r
    → (r.offset.seconds ≡ o) × (i ≡ before (seconds_of s) z r.second) × (before (seconds_of s) z (r.second + 1) ≡ i + 1)
item_offset s z o i r h here =
    let there = is_in (seconds_of s) z i r here in
    let one = one_item s z o r.second h (stands-high (seconds_of s) z r.second there.stands) (items_match s z i r here) in
    let next = before-next (seconds_of s) z r.second in
    let single : length (items_of s z r.second) ≡ 1 = rw one.1 refl in
    let low = there.low in
    let high = there.high in
    let place : i ≡ before (seconds_of s) z r.second = omega arith in
    let item : slice_get (timeline s z) (before (seconds_of s) z r.second + 0)
    ≡ Some (reading r.second one.0) = item_in (seconds_of s) z r.second 0 (stands-high (seconds_of s) z r.second there.stands) (omega arith) ∙ ap (λ xs. slice_get xs 0) one.1 in
    let zero : before (seconds_of s) z r.second + 0 ≡ i = omega arith in
    let same : Some r ≡ Some (reading r.second one.0) = sym here ∙ (rw zero at item) in
    (ap (λ (o : Option Reading). offset_in o) same ∙ one.2, place, omega arith)
  where
    offset_in : Option Reading → ℤ
    offset_in None = pos 0
    offset_in (Some q) = q.offset.seconds

answer_at : (k : ℕ) (o : Option Reading) → (item_at k o).answer ≡ o
answer_at k None = refl
answer_at k (Some x) = refl

pub next_is_later : NextIsLater
next_is_later s z o i r q h here e =
    let there : slice_get (timeline s z) (i + 1) ≡ Some q = sym (answer_at (i + 1) (slice_get (timeline s z) (i + 1))) ∙ e in
    let a = item_offset s z o i r h here in
    let b = item_offset s z o (i + 1) q h there in
    let up = never_decrease s z i (i + 1) r q (omega arith) here there in
    elim (cases_lt r.second q.second) [
      | inl lt ↦ omega (arith, signed_arith, a.0, b.0)
      | inr ge ↦
          let equal : r.second ≡ q.second = omega arith in
          let places : before (seconds_of s) z r.second ≡ before (seconds_of s) z q.second = ap (before (seconds_of s) z) equal in
          absurd (omega (arith, a.1, b.1))
    ]

int_le-from : (b c : ℤ) → b ≤ℤ c → int_le b c ≡ true
int_le-from b c h = grind (arith, ints)

int_le-to : (b c : ℤ) → int_le b c ≡ true → b ≤ℤ c
int_le-to b c h = grind (arith, ints)

-- where jiff has no instant one second after t, nothing is shown after t
none_past_end : (s : Sets) (z : TimeZone) (o t : ℤ) → HasOneOffset z o → IsTimestampNanos t → bound_ahead z t ≡ None → (n : ℤ) → IsAfter t n
    → ¬ (Shows s o n)
unfolding bound_ahead
none_past_end s z o t h here none n after k =
    let one = h.read 0 (omega arith) in
    let same = one.2 in
    let is = k.is in
    let below = k.in_range in
    let small = one.0.in_range in
    let there : IsTimestampNanos (t +ℤ pos 1_000_000_000) = (omega (arith, signed_arith), omega (arith, signed_arith)) in
    let some = sym (shown_if_any-some z (t +ℤ pos 1_000_000_000) there) ∙ none in cc

-- a bound is what is shown one second later
bound_ahead-is : (z : TimeZone) (t b : ℤ) → bound_ahead z t ≡ Some b → b ≡ shown_at z (t +ℤ pos 1_000_000_000)
unfolding bound_ahead
bound_ahead-is z t b e =
    elim (is_instant (t +ℤ pos 1_000_000_000)) as (λ i. cond i (Some (shown_at z (t +ℤ pos 1_000_000_000))) None ≡ Some b
    → b ≡ shown_at z (t +ℤ pos 1_000_000_000)) [
      | true ↦ λ k. cc
      | false ↦ λ k. cc
    ] e

-- what is shown has its item on the timeline
shown_item : (s : Sets) (z : TimeZone) (o n : ℤ) → HasOneOffset z o → (k : Shows s o n)
    → (y : Reading) × (slice_get (timeline s z) (before (seconds_of s) z k.second + 0) ≡ Some y) × (y.second ≡ k.second)
shown_item s z o n h k =
    let one = one_item s z o k.second h k.in_range k.matching in
    let single : length (items_of s z k.second) ≡ 1 = rw one.1 refl in
    (reading k.second one.0, item_in (seconds_of s) z k.second 0 k.in_range (omega arith) ∙ ap (λ xs. slice_get xs 0) one.1, refl)

module _ (s : Sets) (z : TimeZone) (o t b : ℤ) (h : HasOneOffset z o) (is : b ≡ shown_at z (t +ℤ pos 1_000_000_000)) where
  abbrev is_from : Reading → Bool
  is_from r = int_le b (pos r.second)

  shown_passes : (n : ℤ) → IsAfter t n → (k : Shows s o n) → int_le b (pos k.second) ≡ true
  shown_passes n after k = int_le-from b (pos k.second) (rw is (bound_is z o t n k.second h k.is after))

  least_after : (i : ℕ) → (f : IsFirst is_from (timeline s z) i) → IsLeastAfter s o t f.x
  least_after i f =
      let off = (item_offset s z o i f.x h f.here).0 in
      let second : instant f.x +ℤ o ≡ pos f.x.second = omega (arith, signed_arith) in
      let low : shown_at z (t +ℤ pos 1_000_000_000) ≤ℤ pos f.x.second = rw (← is) (int_le-to b (pos f.x.second) f.passes) in
      record {
        shows = record {
          second = f.x.second;
          is = second;
          in_range = stands-high (seconds_of s) z f.x.second (is_in (seconds_of s) z i f.x f.here).stands;
          matching = items_match s z i f.x f.here;
        };
        after = bound_back_is z o t (instant f.x) f.x.second h second low;
        least = λ n after k.
            let there = shown_item s z o n h k in
            let shown = k.is in
            elim (cases_lt k.second f.x.second) [
              | inl lt ↦ elim (cases_lt (before (seconds_of s) z k.second + 0) i) [
                | inl early ↦ absurd (true≢false (sym (shown_passes n after k) ∙ ap (λ c. int_le b (pos c)) (sym there.2)
                    ∙ f.first (before (seconds_of s) z k.second + 0) there.0 early there.1))
                | inr late ↦ let up = never_decrease s z i (before (seconds_of s) z k.second + 0) f.x there.0 late f.here there.1 in let same = there.2 in
                    absurd (omega arith)
              ]
              | inr ge ↦ omega (arith, signed_arith)
            ];
      }

  by_place : (p : Option ℕ) → position is_from (timeline s z) ≡ p
      → MatchOption (go_to (timeline s z) p).answer ((n : ℤ) → IsAfter t n → ¬ (Shows s o n)) (IsLeastAfter s o t)
  by_place None e = λ n after k.
      let there = shown_item s z o n h k in
      let fails = none_passes is_from 0 (timeline s z) (sym (position_from-zero is_from (timeline s z)) ∙ e) (before (seconds_of s) z k.second + 0) there.0 there.1 in
      true≢false (sym (shown_passes n after k) ∙ ap (λ c. int_le b (pos c)) (sym there.2) ∙ fails)
  by_place (Some i) e =
      let found = some_passes is_from 0 (timeline s z) i (sym (position_from-zero is_from (timeline s z)) ∙ e) in
      let place : found.0 ≡ i = let same = found.1 in omega arith in
      let here : slice_get (timeline s z) i ≡ Some found.2.x = ap (slice_get (timeline s z)) (sym place) ∙ found.2.here in
      rw here (least_after found.0 found.2)

pub first_is_least : FirstIsLeast
first_is_least s z o t h here = by_bound (bound_ahead z t) refl
  where
    by_bound : (b : Option ℤ) → bound_ahead z t ≡ b → MatchOption (go_to (timeline s z) (first_from (timeline s z) b)).answer ((n : ℤ) → IsAfter t n
        → ¬ (Shows s o n)) (IsLeastAfter s o t)
    by_bound None e = none_past_end s z o t h here e
    by_bound (Some b) e = by_place s z o t b h (bound_ahead-is z t b e) (position (λ (r : Reading). int_le b (pos r.second)) (timeline s z)) refl

-- ---- the item after one

nothing_beyond : {A : Type 0} (xs : List A) (i k : ℕ) (y : A) → slice_get xs i ≡ None → i ≤ k → slice_get xs k ≡ Some y → ⊥
nothing_beyond [] i k y none le at = nothing_in_nil k y at
nothing_beyond (x ∷ xs) zero k y none le at = cc
nothing_beyond (x ∷ xs) (suc i) zero y none le at = omega arith
nothing_beyond (x ∷ xs) (suc i) (suc k) y none le at = nothing_beyond xs i k y none (omega arith) at

-- what is shown after an item has a later place
later_place : (s : Sets) (z : TimeZone) (o : ℤ) (i : ℕ) (r : Reading) (n : ℤ) → HasOneOffset z o → slice_get (timeline s z) i ≡ Some r
    → IsAfter (instant r *ℤ pos 1_000_000_000) n → (k : Shows s o n) → i + 1 ≤ before (seconds_of s) z k.second + 0
later_place s z o i r n h here after k =
    let a = item_offset s z o i r h here in
    let off = a.0 in
    let is = k.is in
    let lt : r.second + 1 ≤ k.second = omega (arith, signed_arith) in
    let up = before-up (seconds_of s) z (r.second + 1) k.second lt in
    let next = a.2 in
    omega arith

-- the item after one is the least later instant that shows a match, and there is none where nothing later does
pub next_is_least : (s : Sets) (z : TimeZone) (o : ℤ) (i : ℕ) (r : Reading) → HasOneOffset z o → slice_get (timeline s z) i ≡ Some r
    → MatchOption (slice_get (timeline s z) (i + 1)) ((n : ℤ) → IsAfter (instant r *ℤ pos 1_000_000_000) n → ¬ (Shows s o n))
    (IsLeastAfter s o (instant r *ℤ pos 1_000_000_000))
next_is_least s z o i r h here = by_next (slice_get (timeline s z) (i + 1)) refl
  where
    by_next : (q : Option Reading) → slice_get (timeline s z) (i + 1) ≡ q
        → MatchOption q ((n : ℤ) → IsAfter (instant r *ℤ pos 1_000_000_000) n → ¬ (Shows s o n))
        (IsLeastAfter s o (instant r *ℤ pos 1_000_000_000))
    by_next None none = λ n after k.
        let there = shown_item s z o n h k in
        nothing_beyond (timeline s z) (i + 1) (before (seconds_of s) z k.second + 0) there.0 none (later_place s z o i r n h here after k) there.1
    by_next (Some q) there =
        let off = (item_offset s z o (i + 1) q h there).0 in
        let later = next_is_later s z o i r q h here (answer_at (i + 1) (slice_get (timeline s z) (i + 1)) ∙ there) in
        record {
          shows = record {
            second = q.second;
            is = omega (arith, signed_arith);
            in_range = stands-high (seconds_of s) z q.second (is_in (seconds_of s) z (i + 1) q there).stands;
            matching = items_match s z (i + 1) q there;
          };
          after = omega (arith, signed_arith);
          least = λ n after k.
              let shown = shown_item s z o n h k in
              let is = k.is in
              let same = shown.2 in
              let up = never_decrease s z (i + 1) (before (seconds_of s) z k.second + 0) q shown.0 (later_place s z o i r n h here after k) there shown.1 in
              omega (arith, signed_arith);
        }
