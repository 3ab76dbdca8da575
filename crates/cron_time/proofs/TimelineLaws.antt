-- The order of a timeline, and how often a civil second stands on it.
use Rattle.std.proofs.Common.{◌≡◌, ℕ, zero, suc, ◌+◌, ◌<◌, ◌≤◌, Bool, true, false, ◌&&◌, cond, List, [], ◌∷◌, length, Some, refl, sym, ap, ◌∙◌, arith, inl, inr, nat_eq}
use Rattle.std.specs.Prelude.{slice_get, count_by}
use Rattle.std.specs.Ordering.{int_eq}
use Rattle.std.proofs.lemmas.Bool.{cases_lt}
use Rattle.std.proofs.lemmas.Int.{ints}
use Rattle.std.proofs.lemmas.List.Sums.{count_by-le-length, sum_by-append}
use Rattle.jiff_tz.specs.Zone.{ambiguous_at}
use Rattle.jiff_tz.specs.declared.timezone.TimeZone.{TimeZone}
use Rattle.jiff_tz.specs.declared.ambiguous.AmbiguousOffset.{AmbiguousOffset}
use Rattle.jiff_tz.specs.declared.ambiguous.AmbiguousOffset.TheVariants.{Unambiguous, Gap, Fold}
use Rattle.cron_moments.specs.Civil.{civil}
use Rattle.cron_moments.specs.Readings.{Reading, reading, readings, readings_by}
use Rattle.cron_time.specs.Seconds.{Seconds, items_of, timeline}
use Rattle.cron_time.specs.Timeline.{seconds_of}
use Rattle.cron_time.specs.Walk.Laws.{SecondsNeverDecrease, SecondsStandTwiceAtMost, ItemsMatch, ItemsStandOnce}
use Rattle.cron_time.proofs.PlaceLemmas.{nothing_in_nil}
use Rattle.cron_time.proofs.JoinedLemmas.{joined, joined-zero, joined-suc, owner}
use Rattle.cron_time.proofs.TimelineLemmas.{before-up, in_readings, is_in, item_of, items_of-second, timeline-joined}

pub never_decrease : SecondsNeverDecrease
never_decrease s z i j x y le here there =
    elim (cases_lt y.second x.second) [
      | inl lt ↦
          let first = is_in (seconds_of s) z i x here in
          let second = is_in (seconds_of s) z j y there in
          let up = before-up (seconds_of s) z (y.second + 1) x.second (omega arith) in
          let low = first.low in
          let high = second.high in
          absurd (omega arith)
      | inr ge ↦ ge
    ]

pub items_match : ItemsMatch
items_match s z i x here = (item_of (seconds_of s) z i x here).matching

-- ---- at most twice

short_by : (c : ℕ) (a : AmbiguousOffset) → length (readings_by c a) ≤ 2
short_by c (Unambiguous o) = omega arith
short_by c (Gap b a) = omega arith
short_by c (Fold b a) =
    elim (int_eq b.seconds a.seconds) as (λ same. length (cond same (reading c b ∷ []) (reading c b ∷ reading c a ∷ [])) ≤ 2) [
      | true ↦ omega arith
      | false ↦ omega arith
    ]

items_of-short : (s : Seconds) (z : TimeZone) (c : ℕ) → length (items_of s z c) ≤ 2
unfolding items_of readings
items_of-short s z c =
    elim (s c) as (λ m. length (cond m (readings_by c (ambiguous_at z (civil c))) []) ≤ 2) [
      | true ↦ short_by c (ambiguous_at z (civil c))
      | false ↦ omega arith
    ]

count_by-none : {A : Type 0} (p : A → Bool) (xs : List A) → ((k : ℕ) (y : A) → slice_get xs k ≡ Some y → p y ≡ false) → count_by p xs ≡ 0
count_by-none p [] none = refl
count_by-none p (x ∷ xs) none =
    let fails : p x ≡ false = none 0 x refl in
    sum_by-append (λ y. cond (p y) 1 0) (x ∷ []) xs ∙ rw (fails, count_by-none p xs (λ k y at. none (suc k) y at)) refl

differ : (c d : ℕ) → c < d → nat_eq c d ≡ false
differ c d lt = grind arith

differ_back : (c d : ℕ) → d < c → nat_eq c d ≡ false
differ_back c d lt = grind arith

module _ (s : Seconds) (z : TimeZone) (c : ℕ) where
  abbrev has_second : Reading → Bool
  has_second r = nat_eq r.second c

  count_suc : (n : ℕ) → count_by has_second (joined (items_of s z) (suc n))
      ≡ count_by has_second (joined (items_of s z) n) + count_by has_second (items_of s z n)
  count_suc n =
      ap (count_by has_second) (joined-suc (items_of s z) n) ∙ sum_by-append (λ r. cond (has_second r) 1 0) (joined (items_of s z) n) (items_of s z n)

  count_below : (n : ℕ) → n ≤ c → count_by has_second (joined (items_of s z) n) ≡ 0
  count_below n h =
      count_by-none has_second (joined (items_of s z) n)
      (λ k y at. let own = owner (items_of s z) n k y at in
      let second = items_of-second s z own.number own.place y own.here in
      let low = own.below in
      differ y.second c (omega arith))

  count_other : (n : ℕ) → c < n → count_by has_second (items_of s z n) ≡ 0
  count_other n h =
      count_by-none has_second (items_of s z n)
      (λ k y at. let second = items_of-second s z n k y at in differ_back y.second c (omega arith))

  count_all : (n : ℕ) → count_by has_second (joined (items_of s z) n) ≤ 2
  count_all zero = rw (joined-zero (items_of s z)) (omega arith)
  count_all (suc n) =
      let more = count_suc n in
      elim (cases_lt c n) [
        | inl lt ↦ let less = count_all n in let here = count_other n lt in omega arith
        | inr ge ↦
            let none = count_below n ge in
            let here = count_by-le-length has_second (items_of s z n) in
            let short = items_of-short s z n in
            omega arith
      ]

pub twice_at_most : SecondsStandTwiceAtMost
twice_at_most s z c =
    rw (timeline-joined (seconds_of s) z) (count_all (seconds_of s) z c 4_133_980_800)

-- ---- once each

only_place : (q x : Reading) (i : ℕ) → slice_get (q ∷ []) i ≡ Some x → (i ≡ 0) × (q ≡ x)
only_place q x zero e = (refl, cc)
only_place q x (suc i) e = absurd (nothing_in_nil i x e)

places_of_two : (p q x : Reading) (i j : ℕ) → ¬ (p ≡ q) → slice_get (p ∷ q ∷ []) i ≡ Some x → slice_get (p ∷ q ∷ []) j ≡ Some x → i ≡ j
places_of_two p q x zero zero h e f = refl
places_of_two p q x zero (suc j) h e f =
    let first : p ≡ x = cc in absurd (h (first ∙ sym (only_place q x j f).1))
places_of_two p q x (suc i) zero h e f =
    let first : p ≡ x = cc in absurd (h (first ∙ sym (only_place q x i e).1))
places_of_two p q x (suc i) (suc j) h e f =
    ap suc ((only_place q x i e).0 ∙ sym (only_place q x j f).0)

places_by : (c : ℕ) (a : AmbiguousOffset) (x : Reading) (i j : ℕ) → slice_get (readings_by c a) i ≡ Some x → slice_get (readings_by c a) j ≡ Some x → i ≡ j
places_by c (Unambiguous o) x i j e f = (only_place _ x i e).0 ∙ sym (only_place _ x j f).0
places_by c (Gap b a) x i j e f = absurd (nothing_in_nil i x e)
places_by c (Fold b a) x i j e f = by_offsets (int_eq b.seconds a.seconds) refl e f
  where
    apart : int_eq b.seconds a.seconds ≡ false → ¬ (reading c b ≡ reading c a)
    apart other same =
        let seconds : b.seconds ≡ a.seconds = ap (λ (r : Reading). r.offset.seconds) same in grind (arith, ints)

    by_offsets : (same : Bool) → int_eq b.seconds a.seconds ≡ same → slice_get (cond same (reading c b ∷ []) (reading c b ∷ reading c a ∷ [])) i ≡ Some x
        → slice_get (cond same (reading c b ∷ []) (reading c b ∷ reading c a ∷ [])) j ≡ Some x → i ≡ j
    by_offsets true is g h = (only_place _ x i g).0 ∙ sym (only_place _ x j h).0
    by_offsets false is g h = places_of_two (reading c b) (reading c a) x i j (apart is) g h

places_in : (z : TimeZone) (c : ℕ) (x : Reading) (i j : ℕ) → slice_get (readings z c) i ≡ Some x → slice_get (readings z c) j ≡ Some x → i ≡ j
unfolding readings
places_in z c x i j e f = places_by c (ambiguous_at z (civil c)) x i j e f

one_place : (s : Seconds) (z : TimeZone) (c d : ℕ) (x : Reading) (u v i j : ℕ) → c ≡ d → slice_get (items_of s z c) u ≡ Some x
    → slice_get (items_of s z d) v ≡ Some x → i ≡ length (joined (items_of s z) c) + u → j ≡ length (joined (items_of s z) d) + v → i ≡ j
one_place s z c d x u v i j same here there first second =
    let inner : u ≡ v = places_in z d x u v (in_readings s z d u x (ap (λ n. slice_get (items_of s z n) u) (sym same) ∙ here)) (in_readings s z d v x there) in
    first ∙ ap (λ n. length (joined (items_of s z) n) + u) same ∙ ap (λ k. length (joined (items_of s z) d) + k) inner ∙ sym second

-- no item of a set stands at two places
pub stands_once : (s : Seconds) (z : TimeZone) (i j : ℕ) (x : Reading) → slice_get (timeline s z) i ≡ Some x → slice_get (timeline s z) j ≡ Some x → i ≡ j
stands_once s z i j x here there =
    let a = owner (items_of s z) 4_133_980_800 i x (rw (timeline-joined s z) at here) in
    let b = owner (items_of s z) 4_133_980_800 j x (rw (timeline-joined s z) at there) in
    let same = sym (items_of-second s z a.number a.place x a.here) ∙ items_of-second s z b.number b.place x b.here in
    one_place s z a.number b.number x a.place b.place i j same a.here b.here a.is b.is

pub stand_once : ItemsStandOnce
stand_once s = stands_once (seconds_of s)
