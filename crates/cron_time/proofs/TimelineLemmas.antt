-- Where the items of a civil second stand on a timeline.
use Rattle.std.proofs.Common.{◌≡◌, ℕ, zero, suc, ◌+◌, ◌<◌, ◌≤◌, Bool, true, false, ◌&&◌, cond, List, [], ◌∷◌, length, Some, refl, sym, ap, ◌∙◌, arith, inl, inr, nat_lt}
use Rattle.std.specs.Prelude.{slice_get}
use Rattle.std.specs.Ordering.{int_eq}
use Rattle.std.proofs.lemmas.Bool.{cases_lt}
use Rattle.std.proofs.lemmas.Option.{slice_get_within}
use Rattle.jiff_tz.specs.Zone.{ambiguous_at}
use Rattle.jiff_tz.specs.declared.timezone.TimeZone.{TimeZone}
use Rattle.jiff_tz.specs.declared.ambiguous.AmbiguousOffset.{AmbiguousOffset}
use Rattle.jiff_tz.specs.declared.ambiguous.AmbiguousOffset.TheVariants.{Unambiguous, Gap, Fold}
use Rattle.cron_moments.specs.Civil.{civil}
use Rattle.cron_moments.specs.Readings.{Reading, reading, readings, readings_by}
use Rattle.cron_time.specs.Seconds.{Seconds, has_item, items_below, items_of, numbers_below, stands, timeline}
use Rattle.cron_time.proofs.PlaceLemmas.{nothing_in_nil}
use Rattle.cron_time.proofs.JoinedLemmas.{joined, length-suc, length-up, Owner, owner, get-joined, flat_map-filter}

-- ---- the items of one civil second

second_one : (c : ℕ) (i : ℕ) (q r : Reading) → q.second ≡ c → slice_get (q ∷ []) i ≡ Some r → r.second ≡ c
second_one c zero q r h e = cc
second_one c (suc i) q r h e = absurd (nothing_in_nil i r e)

second_two : (c : ℕ) (i : ℕ) (p q r : Reading) → p.second ≡ c → q.second ≡ c → slice_get (p ∷ q ∷ []) i ≡ Some r → r.second ≡ c
second_two c zero p q r h k e = cc
second_two c (suc i) p q r h k e = second_one c i q r k e

second_by : (c : ℕ) (a : AmbiguousOffset) (i : ℕ) (r : Reading) → slice_get (readings_by c a) i ≡ Some r → r.second ≡ c
second_by c (Unambiguous o) i r e = second_one c i (reading c o) r refl e
second_by c (Gap b a) i r e = absurd (nothing_in_nil i r e)
second_by c (Fold b a) i r e =
    elim (int_eq b.seconds a.seconds) as (λ same. slice_get (cond same (reading c b ∷ []) (reading c b ∷ reading c a ∷ [])) i ≡ Some r → r.second ≡ c) [
      | true ↦ λ k. second_one c i (reading c b) r refl k
      | false ↦ λ k. second_two c i (reading c b) (reading c a) r refl refl k
    ] e

-- a reading has the civil second that it stands for, and so has an item
pub readings-second : (z : TimeZone) (c i : ℕ) (r : Reading) → slice_get (readings z c) i ≡ Some r → r.second ≡ c
unfolding readings
readings-second z c i r e = second_by c (ambiguous_at z (civil c)) i r e

pub in_readings : (s : Seconds) (z : TimeZone) (c i : ℕ) (r : Reading) → slice_get (items_of s z c) i ≡ Some r → slice_get (readings z c) i ≡ Some r
unfolding items_of
in_readings s z c i r =
    elim (s c) as (λ m. slice_get (cond m (readings z c) []) i ≡ Some r → slice_get (readings z c) i ≡ Some r) [
      | true ↦ λ e. e
      | false ↦ λ e. absurd (nothing_in_nil i r e)
    ]

pub items_of-second : (s : Seconds) (z : TimeZone) (c : ℕ) (i : ℕ) (r : Reading) → slice_get (items_of s z c) i ≡ Some r → r.second ≡ c
items_of-second s z c i r e = readings-second z c i r (in_readings s z c i r e)

-- a civil second of the set has its readings, and one that has an item is of the set
pub items_of-matching : (s : Seconds) (z : TimeZone) (c : ℕ) → s c ≡ true → items_of s z c ≡ readings z c
unfolding items_of
items_of-matching s z c m = rw m refl

matching-of_items : (s : Seconds) (z : TimeZone) (c i : ℕ) (r : Reading) → slice_get (items_of s z c) i ≡ Some r → s c ≡ true
unfolding items_of
matching-of_items s z c i r =
    elim (s c) as (λ m. slice_get (cond m (readings z c) []) i ≡ Some r → m ≡ true) [
      | true ↦ λ e. refl
      | false ↦ λ e. absurd (nothing_in_nil i r e)
    ]

has_some : (xs : List Reading) (i : ℕ) (r : Reading) → slice_get xs i ≡ Some r → has_item xs ≡ true
has_some [] i r e = absurd (nothing_in_nil i r e)
has_some (x ∷ xs) i r e = refl

stands_by : (c n : ℕ) (b : Bool) → c < n → b ≡ true → (nat_lt c n && b) ≡ true
stands_by c n b lt h = rw h (grind arith)

in_range_by : (c n : ℕ) (b : Bool) → (nat_lt c n && b) ≡ true → c < n
in_range_by c n true h = grind arith
in_range_by c n false h = grind arith

-- a civil second that stands is in range
pub stands-high : (s : Seconds) (z : TimeZone) (c : ℕ) → stands s z c ≡ true → c < 4_133_980_800
stands-high s z c h = in_range_by c 4_133_980_800 (has_item (items_of s z c)) h

-- ---- the timeline

-- the timeline is the list that is joined from the items of each number
pub items_below-joined : (s : Seconds) (z : TimeZone) (n : ℕ) → items_below s z n ≡ joined (items_of s z) n
unfolding items_below items_of
items_below-joined s z n = flat_map-filter (readings z) s (numbers_below n)

pub timeline-joined : (s : Seconds) (z : TimeZone) → timeline s z ≡ joined (items_of s z) 4_133_980_800
unfolding timeline
timeline-joined s z = items_below-joined s z 4_133_980_800

-- how many items come before a civil second
abbrev pub before : Seconds → TimeZone → ℕ → ℕ
before s z c = length (items_below s z c)

before-joined : (s : Seconds) (z : TimeZone) (c : ℕ) → before s z c ≡ length (joined (items_of s z) c)
before-joined s z c = ap length (items_below-joined s z c)

pub before-next : (s : Seconds) (z : TimeZone) (c : ℕ) → before s z (c + 1) ≡ before s z c + length (items_of s z c)
before-next s z c =
    rw (before-joined s z (c + 1), before-joined s z c) (length-suc (items_of s z) c)

-- the items of a civil second stand behind those of the civil seconds before it
pub item_in : (s : Seconds) (z : TimeZone) (c i : ℕ) → c < 4_133_980_800 → i < length (items_of s z c)
    → slice_get (timeline s z) (before s z c + i) ≡ slice_get (items_of s z c) i
item_in s z c i high inside =
    rw (timeline-joined s z, before-joined s z c) (get-joined (items_of s z) c 4_133_980_800 i high inside)

pub before-all : (s : Seconds) (z : TimeZone) (c : ℕ) → c ≤ 4_133_980_800 → before s z c ≤ length (timeline s z)
before-all s z c h =
    rw (timeline-joined s z, before-joined s z c) (length-up (items_of s z) c 4_133_980_800 h)

-- an item stands behind the items of the civil seconds before its own
pub record IsIn (s : Seconds) (z : TimeZone) (k : ℕ) (r : Reading) : Type 0 where
  pub low : before s z r.second ≤ k
  pub high : k < before s z (r.second + 1)
  pub stands : stands s z r.second ≡ true

is_in_by : (s : Seconds) (z : TimeZone) (k : ℕ) (r : Reading) (c i : ℕ) → r.second ≡ c → c < 4_133_980_800 → slice_get (items_of s z c) i ≡ Some r
    → k ≡ before s z c + i → i < length (items_of s z c) → IsIn s z k r
is_in_by s z k r c i second below here is inside =
    let next = before-next s z c in
    rw second (record {
      low = omega arith;
      high = omega arith;
      stands = stands_by c 4_133_980_800 (has_item (items_of s z c)) below (has_some (items_of s z c) i r here);
    })

pub is_in : (s : Seconds) (z : TimeZone) (k : ℕ) (r : Reading) → slice_get (timeline s z) k ≡ Some r → IsIn s z k r
is_in s z k r e =
    let own : Owner (items_of s z) 4_133_980_800 k r = owner (items_of s z) 4_133_980_800 k r (rw (timeline-joined s z) at e) in
    is_in_by s z k r own.number own.place (items_of-second s z own.number own.place r own.here) own.below own.here (own.is
    ∙ ap (λ n. n + own.place) (sym (before-joined s z own.number))) (slice_get_within (items_of s z own.number) own.place r own.here)

pub before-up : (s : Seconds) (z : TimeZone) (c d : ℕ) → c ≤ d → before s z c ≤ before s z d
before-up s z c d h = rw (before-joined s z c, before-joined s z d) (length-up (items_of s z) c d h)

-- an item among those of the civil seconds before m, and one behind them
pub early : (s : Seconds) (z : TimeZone) (k : ℕ) (r : Reading) (m : ℕ) → slice_get (timeline s z) k ≡ Some r → k < before s z m → r.second < m
early s z k r m e lt =
    elim (cases_lt r.second m) [
      | inl h ↦ h
      | inr ge ↦ let i = is_in s z k r e in let up = before-up s z m r.second ge in let low = i.low in absurd (omega arith)
    ]

pub late : (s : Seconds) (z : TimeZone) (k : ℕ) (r : Reading) (m : ℕ) → slice_get (timeline s z) k ≡ Some r → before s z m ≤ k → m ≤ r.second
late s z k r m e ge =
    elim (cases_lt r.second m) [
      | inl lt ↦ let i = is_in s z k r e in let up = before-up s z (r.second + 1) m (omega arith) in let high = i.high in absurd (omega arith)
      | inr h ↦ h
    ]

-- an item is a reading of a civil second of the set
pub record IsItemOf (s : Seconds) (z : TimeZone) (r : Reading) : Type 0 where
  pub place : ℕ
  pub here : slice_get (readings z r.second) place ≡ Some r
  pub in_range : r.second < 4_133_980_800
  pub matching : s r.second ≡ true

pub item_of : (s : Seconds) (z : TimeZone) (k : ℕ) (r : Reading) → slice_get (timeline s z) k ≡ Some r → IsItemOf s z r
item_of s z k r e =
    let own = owner (items_of s z) 4_133_980_800 k r (rw (timeline-joined s z) at e) in
    let second = items_of-second s z own.number own.place r own.here in
    let below = own.below in
    record {
      place = own.place;
      here = ap (λ c. slice_get (readings z c) own.place) second ∙ in_readings s z own.number own.place r own.here;
      in_range = omega arith;
      matching = ap s second ∙ matching-of_items s z own.number own.place r own.here;
    }
