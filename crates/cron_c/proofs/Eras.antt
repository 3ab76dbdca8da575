-- The first item of a history: what a search in one era tells of the whole.
use Rattle.std.proofs.Common.{◌≡◌, ℕ, zero, suc, ◌+◌, ◌-◌, ◌<◌, ◌≤◌, ℤ, pos, neg_ℤ, ◌-ℤ◌, ◌*ℤ◌, ◌<ℤ◌, ◌≤ℤ◌, int_le, Bool, true, false, List, Option, Some, None, ◌⊎◌, inl, inr, nat_lt, refl, sym, ap, subst, ◌∙◌, arith}
use Rattle.std.specs.Prelude.{MatchOption, slice_get, length}
use Rattle.std.proofs.lemmas.Int.{ints}
use Rattle.std.proofs.lemmas.Option.{slice_get_within, slice_get_cases}
use Rattle.jiff_core.proofs.SignedLemmas.{signed_arith}
use Rattle.jiff_core.specs.declared.Timestamp.{Timestamp}
use Rattle.jiff_tz.specs.declared.timezone.TimeZone.{TimeZone}
use Rattle.cron_time.specs.Seconds.{Seconds}
use Rattle.cron_moments.specs.Civil.{seconds_in_range}
use Rattle.cron_moments.specs.Readings.{Reading, instant}
use Rattle.cron_instants.specs.Instants.{IsEarliest, IsItem}
use Rattle.cron_instants.specs.Order.{is_earlier}
use Rattle.cron_seconds.proofs.IntLemmas.{int_le-true, int_le-false}
use Rattle.cron_instants.proofs.ItemLemmas.{stands_of}
use Rattle.cron_seconds.proofs.SetLemmas.{match_in_range}
use Rattle.cron_instants.proofs.OrderLemmas.{before-false, before-not_less}
use Rattle.cron_c.specs.Calls.{IsInstant}
use Rattle.cron_c.specs.Zones.{IsNoZone, IsSomeZone, IsZoneIn}
use Rattle.cron_c.specs.Histories.{BeginsIn, IsBeyond, IsEraItem, IsFound, IsHistory, IsItemAt, IsSought, IsZoneAt, has_started, meets, started_by}
use Rattle.cron_c.specs.declared.era.CronEra.{CronEra}
use Rattle.cron_c.specs.declared.history.Begin.{Begin}
use Rattle.cron_c.specs.declared.history.Begin.TheVariants.{After}
use Rattle.cron_c.proofs.AnyZone.{item_in_any}

le_yes : (a b : ℤ) → a ≤ℤ b → int_le a b ≡ true
le_yes a b h = grind (arith, ints)

-- ---- the earliest with one property is that with another

pub alike : (P Q : Reading → Type 0) (found : Option Reading) → ((r : Reading) → P r → Q r) → ((r : Reading) → Q r → P r)
    → IsEarliest P found → IsEarliest Q found
alike P Q None to from none = λ r q. none r (from r q)
alike P Q (Some m) to from first = (to m first.0, λ q h. first.1 q (from q h))

-- ---- one era

zone_here_is : (eras : List CronEra) (at : ℕ) (e : CronEra) (z : TimeZone) → slice_get eras at ≡ Some e → IsZoneAt eras at z → IsZoneIn e.zone z
zone_here_is eras at e z here (other, get, of) =
    let both : Some e ≡ Some other = sym here ∙ get in
    let is : other ≡ e = cc in
    subst (λ (x : CronEra). IsZoneIn x.zone z) is of

-- what is read of the era's struct tells so
pub zone_told : {X : Type 0} (eras : List CronEra) (at : ℕ) (e : CronEra) (plain : X → TimeZone) (o : Option X) → slice_get eras at ≡ Some e
    → MatchOption o (IsNoZone e.zone) (λ x. IsZoneIn e.zone (plain x)) → MatchOption o (IsHistory eras → ⊥) (λ x. IsZoneAt eras at (plain x))
zone_told eras at e plain None here none = λ h. let (z, of) = h.zones at e here in none z of
zone_told eras at e plain (Some x) here of = (e, here, of)

-- an item of the era at a place is one of the era there
pub of_era : (s : Seconds) (eras : List CronEra) (at : ℕ) (e : CronEra) (r : Reading) → slice_get eras at ≡ Some e → IsItemAt s eras at r
    → IsEraItem s e r × (has_started eras (at + 1) (instant r) ≡ false)
of_era s eras at e r here (other, get, of, still) =
    let both : Some e ≡ Some other = sym here ∙ get in
    let is : other ≡ e = cc in
    (subst (λ (x : CronEra). IsEraItem s x r) is of, still)

-- and one of its zone
pub in_zone : (s : Seconds) (eras : List CronEra) (at : ℕ) (e : CronEra) (z : TimeZone) (r : Reading) → slice_get eras at ≡ Some e → IsZoneAt eras at z
    → IsItemAt s eras at r → IsItem s z r × (e.starts ≤ℤ instant r) × (has_started eras (at + 1) (instant r) ≡ false)
in_zone s eras at e z r here zone item =
    let ((there, from), still) = of_era s eras at e r here item in
    let (other, of, on) = there in
    (item_in_any s e.zone other z r of (zone_here_is eras at e z here zone) on, from, still)

pub from_zone : (s : Seconds) (eras : List CronEra) (at : ℕ) (e : CronEra) (z : TimeZone) (r : Reading) → slice_get eras at ≡ Some e → IsZoneAt eras at z
    → IsItem s z r → e.starts ≤ℤ instant r → has_started eras (at + 1) (instant r) ≡ false → IsItemAt s eras at r
from_zone s eras at e z r here zone item from still = (e, here, ((z, zone_here_is eras at e z here zone, item), from), still)

-- the search in an era that has started where the search begins
pub begins_here : (e : CronEra) (b : Begin) (least : ℤ) → ((r : Reading) → IsBeyond b r → least ≤ℤ instant r) → e.starts ≤ℤ least → BeginsIn e b b
begins_here e b least low starts = λ r. (λ h. let from = low r h in (omega (arith, signed_arith), h), λ h. h.1)

-- and in one that starts later
pub begins_later : (e : CronEra) (b : Begin) (least : ℤ) (t : Timestamp) → ((r : Reading) → least <ℤ instant r → IsBeyond b r) → least <ℤ e.starts
    → t.nanosecond ≡ (e.starts -ℤ pos 1) *ℤ pos 1_000_000_000 → BeginsIn e b (After t)
begins_later e b least t all ahead at = λ r. (
  λ h.
      let after : t.nanosecond <ℤ (instant r *ℤ pos 1_000_000_000) = h in
      let from : e.starts ≤ℤ instant r = omega (arith, signed_arith) in
      let past : least <ℤ instant r = omega (arith, signed_arith) in
      (from, all r past),
  λ h. let from : e.starts ≤ℤ instant r = h.0 in omega (arith, signed_arith),
)

-- it starts too late for any item
pub begins_never : (e : CronEra) (least : ℤ) → neg_ℤ (pos 377_705_023_201) ≤ℤ least → least <ℤ e.starts → (IsInstant (e.starts -ℤ pos 1) → ⊥)
    → (r : Reading) → e.starts ≤ℤ instant r → instant r ≤ℤ pos 4_200_000_000 → ⊥
begins_never e least low ahead never r from high = never (omega (arith, signed_arith), omega (arith, signed_arith))

low_enough : (s : Seconds) (z : TimeZone) (r : Reading) → IsItem s z r → instant r ≤ℤ pos 4_200_000_000
low_enough s z r item =
    let high : r.second < seconds_in_range = match_in_range s r.second (stands_of s z r item).matching in
    let offset = r.offset.in_range in
    let (least, most) = offset in
    omega (arith, signed_arith)

pub first_never : (s : Seconds) (eras : List CronEra) (at : ℕ) (e : CronEra) (b : Begin) → slice_get eras at ≡ Some e
    → ((r : Reading) → e.starts ≤ℤ instant r → instant r ≤ℤ pos 4_200_000_000 → ⊥) → IsEarliest (λ r. IsItemAt s eras at r × IsBeyond b r) None
first_never s eras at e b here never = λ r h.
    let ((there, from), still) = of_era s eras at e r here h.0 in
    let (z, of, on) = there in
    never r from (low_enough s z r on)

pub started_later : (o : Option CronEra) (t u : ℤ) → t ≤ℤ u → started_by o t ≡ true → started_by o u ≡ true
started_later None t u le h = h
started_later (Some e) t u le h =
    let has = int_le-true e.starts t h in
    le_yes e.starts u (omega (arith, signed_arith))

pub clash : (b : Bool) → b ≡ true → b ≡ false → ⊥
clash b is not = absurd (cc)

pub not_before : (a b : Reading) → is_earlier a b ≡ false → instant b ≤ℤ instant a
not_before a b h = elim (before-false (instant a) a.second (instant b) b.second h) [
  | inl less ↦ omega (arith, signed_arith)
  | inr same ↦ let equal = same.0 in omega (arith, signed_arith)
]

-- what the search in its zone finds, for the era at a place
module _ (s : Seconds) (eras : List CronEra) (at : ℕ) (e : CronEra) (z : TimeZone) (begin b : Begin) (here : slice_get eras at ≡ Some e)
    (zone : IsZoneAt eras at z) (begins : BeginsIn e begin b) where
  looked_at : (r : Reading) → IsItemAt s eras at r × IsBeyond begin r → (IsItem s z r × IsBeyond b r) × (has_started eras (at + 1) (instant r) ≡ false)
  looked_at r h =
      let (on, from, still) = in_zone s eras at e z r here zone h.0 in
      ((on, (begins r).1 (from, h.1)), still)

  pub none_found : IsEarliest (λ r. IsItem s z r × IsBeyond b r) None → IsEarliest (λ r. IsItemAt s eras at r × IsBeyond begin r) None
  none_found none = λ r h. none r (looked_at r h).0

  pub found_late : (m : Reading) → IsEarliest (λ r. IsItem s z r × IsBeyond b r) (Some m) → has_started eras (at + 1) (instant m) ≡ true
      → IsEarliest (λ r. IsItemAt s eras at r × IsBeyond begin r) None
  found_late m first ended = λ r h.
      let (mine, still) = looked_at r h in
      let le = not_before r m (first.1 r mine) in
      clash (has_started eras (at + 1) (instant r)) (started_later (slice_get eras (at + 1)) (instant m) (instant r) le ended) still

  pub found_here : (m : Reading) → IsEarliest (λ r. IsItem s z r × IsBeyond b r) (Some m) → has_started eras (at + 1) (instant m) ≡ false
      → IsEarliest (λ r. IsItemAt s eras at r × IsBeyond begin r) (Some m)
  found_here m first still =
      let (from, beyond) = (begins m).0 first.0.1 in
      ((from_zone s eras at e z m here zone first.0.0 from still, beyond), λ q h. first.1 q (looked_at q h).0)

-- ---- the eras of a history

pub start_far : (eras : List CronEra) → IsHistory eras → (i d : ℕ) (a b : CronEra) → slice_get eras i ≡ Some a → slice_get eras (i + d) ≡ Some b
    → a.starts ≤ℤ b.starts
start_far eras h i zero a b e f =
    let there : slice_get eras i ≡ Some b = subst (λ (n : ℕ). slice_get eras n ≡ Some b) (omega arith) f in
    let same : Some a ≡ Some b = sym e ∙ there in
    let is : a ≡ b = cc in
    rw is (omega (arith, signed_arith))
start_far eras h i (suc d) a b e f =
    elim (slice_get_cases eras (i + d)).1 [
      | inl there ↦
          let (m, within, get, at) = there in
          let earlier = start_far eras h i d a m e get in
          let next : slice_get eras ((i + d) + 1) ≡ Some b = subst (λ (n : ℕ). slice_get eras n ≡ Some b) (omega arith) f in
          let later = h.order (i + d) m b get next in
          omega (arith, signed_arith)
      | inr past ↦
          let within = slice_get_within eras (i + suc d) b f in
          let end = past.0 in
          absurd (omega arith)
    ]

-- an era stands before a later one starts
pub starts_by : (eras : List CronEra) → IsHistory eras → (i j : ℕ) (b : CronEra) (t : ℤ) → i < j → slice_get eras j ≡ Some b
    → has_started eras (i + 1) t ≡ false → t <ℤ b.starts
starts_by eras h i j b t less f not_yet =
    elim (slice_get_cases eras (i + 1)).1 [
      | inl there ↦
          let (a, within, get, at) = there in
          let far : a.starts ≤ℤ b.starts =
          start_far eras h (i + 1) (j - (i + 1)) a b get (subst (λ (n : ℕ). slice_get eras n ≡ Some b) (omega arith) f) in
          let late : int_le a.starts t ≡ false = rw get at not_yet in
          let before = int_le-false a.starts t late in
          omega (arith, signed_arith)
      | inr past ↦
          let within = slice_get_within eras j b f in
          let end = past.0 in
          absurd (omega arith)
    ]

-- whether two eras that follow each other are in order
pub in_order : (eras : List CronEra) (at : ℕ) (a b : CronEra) → meets (slice_get eras at) (slice_get eras (at + 1)) ≡ false → slice_get eras at ≡ Some a
    → slice_get eras (at + 1) ≡ Some b → a.starts <ℤ b.starts
in_order eras at a b apart here next =
    let late : int_le b.starts a.starts ≡ false = rw (here, next) at apart in
    int_le-false b.starts a.starts late

met : (o p : Option CronEra) → meets o p ≡ true → (a : CronEra) × (b : CronEra) × (o ≡ Some a) × (p ≡ Some b) × (b.starts ≤ℤ a.starts)
met (Some a) (Some b) h = (a, b, refl, refl, int_le-true b.starts a.starts h)
met (Some a) None h = absurd (cc)
met None p h = absurd (cc)

pub not_in_order : (eras : List CronEra) (at : ℕ) → meets (slice_get eras at) (slice_get eras (at + 1)) ≡ true → IsHistory eras → ⊥
not_in_order eras at h history =
    let (a, b, here, next, le) = met (slice_get eras at) (slice_get eras (at + 1)) h in
    let less = history.order at a b here next in
    omega (arith, signed_arith)

le_by : (a b : ℕ) (less : Bool) → nat_lt a b ≡ less → a ≤ b → (a ≡ b) ⊎ (a + 1 ≤ b)
le_by a b true e le = inr (grind arith)
le_by a b false e le = inl (grind arith)

pub le_split : (a b : ℕ) → a ≤ b → (a ≡ b) ⊎ (a + 1 ≤ b)
le_split a b le = le_by a b (nat_lt a b) refl le

pub zone_here : (eras : List CronEra) (at i : ℕ) (x e : CronEra) → slice_get eras at ≡ Some x → IsSomeZone x.zone → i ≡ at → slice_get eras i ≡ Some e
    → IsSomeZone e.zone
zone_here eras at i x e here some same get =
    let both : Some x ≡ Some e = sym here ∙ (ap (slice_get eras) (sym same) ∙ get) in
    let is : x ≡ e = cc in
    subst (λ (y : CronEra). IsSomeZone y.zone) is some

pub last_or_before : (i n : ℕ) → i < n + 1 → (i ≡ n) ⊎ (i < n)
last_or_before i n below = last_by i n (nat_lt i n) refl below
  where
    last_by : (i n : ℕ) (less : Bool) → nat_lt i n ≡ less → i < n + 1 → (i ≡ n) ⊎ (i < n)
    last_by i n true e below = inr (grind arith)
    last_by i n false e below = inl (grind arith)

at_or_past : (at i : ℕ) (less : Bool) → nat_lt i at ≡ less → (at ≤ i) ⊎ (i < at)
at_or_past at i true e = inr (grind arith)
at_or_past at i false e = inl (grind arith)

pub from_or_before : (at i : ℕ) → (at ≤ i) ⊎ (i < at)
from_or_before at i = at_or_past at i (nat_lt i at) refl

pub started_is : (o : Option CronEra) (t : ℤ) → started_by o t ≡ true → (a : CronEra) × (o ≡ Some a) × (a.starts ≤ℤ t)
started_is None t h = absurd (cc)
started_is (Some a) t h = (a, refl, int_le-true a.starts t h)

pub here_of : (eras : List CronEra) (at : ℕ) (t : ℤ) → has_started eras at t ≡ true → at < length eras
here_of eras at t h =
    let (a, here, starts) = started_is (slice_get eras at) t h in
    let within = slice_get_within eras at a here in
    omega (arith, within)

-- an item that comes no earlier than an era starts is not of one before it
pub not_before_place : (s : Seconds) (eras : List CronEra) (place : ℕ) (t : ℤ) → IsHistory eras → (place ≡ 0) ⊎ (has_started eras place t ≡ true)
    → (i : ℕ) (r : Reading) → IsItemAt s eras i r → t ≤ℤ instant r → place ≤ i
not_before_place s eras place t h (inl first) i r item le = omega (arith, first)
not_before_place s eras place t h (inr begun) i r item le =
    let (e, get, of, still) = item in
    elim (from_or_before place i) [
      | inl past ↦ past
      | inr before ↦
          let (a, here, starts) = started_is (slice_get eras place) t begun in
          let late = starts_by eras h i place a (instant r) before here still in
          absurd (omega (arith, signed_arith))
    ]

-- one that comes no later than a second is of an era that has started by it
pub not_past_place : (s : Seconds) (eras : List CronEra) (end : ℕ) (t : ℤ) → IsHistory eras → has_started eras end t ≡ false → (i : ℕ) (r : Reading)
    → IsItemAt s eras i r → instant r ≤ℤ t → i < end
not_past_place s eras end t h ahead i r item le =
    let (e, get, of, still) = item in
    let from : e.starts ≤ℤ instant r = of.1 in
    elim (from_or_before end i) [
      | inr before ↦ before
      | inl past ↦ elim (slice_get_cases eras end).1 [
        | inl there ↦
            let (a, within, here, at) = there in
            let far : a.starts ≤ℤ e.starts = start_far eras h end (i - end) a e here (subst (λ (n : ℕ). slice_get eras n ≡ Some e) (omega arith) get) in
            let started : has_started eras end t ≡ true = rw here (le_yes a.starts t (omega (arith, signed_arith))) in
            absurd (clash (has_started eras end t) started ahead)
        | inr beyond ↦
            let within = slice_get_within eras i e get in
            let end_is = beyond.0 in
            absurd (omega arith)
      ]
    ]

-- an item of an era comes before those of the eras past it
pub era_by_era : (s : Seconds) (eras : List CronEra) (i j : ℕ) (a b : Reading) → IsHistory eras → i < j → IsItemAt s eras i a → IsItemAt s eras j b
    → instant a <ℤ instant b
era_by_era s eras i j a b h less (x, here, of, still) (e, get, item, on) =
    let before = starts_by eras h i j e (instant a) less get still in
    let from : e.starts ≤ℤ instant b = item.1 in
    omega (arith, signed_arith)

-- ---- the search for the first item

abbrev pub NoneSoFar : Seconds → List CronEra → Begin → ℕ → Type 0
NoneSoFar s eras b at = (i : ℕ) (r : Reading) → IsItemAt s eras i r → IsBeyond b r → at ≤ i

-- before an era that has started where the search begins no item lies there
pub none_before : (s : Seconds) (eras : List CronEra) (b : Begin) (at : ℕ) (least : ℤ) → ((r : Reading) → IsBeyond b r → least ≤ℤ instant r)
    → (at ≡ 0) ⊎ (has_started eras at least ≡ true) → IsHistory eras → NoneSoFar s eras b at
none_before s eras b at least low begun h = λ i r item beyond. not_before_place s eras at least h begun i r item (low r beyond)

-- the era has no item there, and those that are passed over have none
pub none_here : (s : Seconds) (eras : List CronEra) (b : Begin) (at next : ℕ) → IsEarliest (λ r. IsItemAt s eras at r × IsBeyond b r) None
    → ((i : ℕ) (r : Reading) → at < i → IsItemAt s eras i r → next ≤ i) → NoneSoFar s eras b at → NoneSoFar s eras b next
none_here s eras b at next none passed low = λ i r item beyond.
    elim (le_split at i (low i r item beyond)) [
      | inl same ↦ absurd (none r (subst (λ (n : ℕ). IsItemAt s eras n r) (sym same) item, beyond))
      | inr more ↦ passed i r (omega arith) item
    ]

-- its first item is the first of the history
pub first_here : (s : Seconds) (eras : List CronEra) (b : Begin) (at : ℕ) (m : Reading) → IsEarliest (λ r. IsItemAt s eras at r × IsBeyond b r) (Some m)
    → (IsHistory eras → NoneSoFar s eras b at) → IsFound eras IsEarliest (IsSought s eras b) (Some m)
first_here s eras b at m first low = (
  ((at, first.0.0), first.0.1),
  λ h. (
    ((at, first.0.0), first.0.1),
    λ q sought.
        let (item, beyond) = sought in
        elim (le_split at item.0 (low h item.0 q item.1 beyond)) [
          | inl same ↦ first.1 q (subst (λ (n : ℕ). IsItemAt s eras n q) (sym same) item.1, beyond)
          | inr more ↦
              let before = era_by_era s eras at item.0 m q h (omega arith) first.0.0 item.1 in
              before-not_less (instant q) q.second (instant m) m.second before
        ],
  ),
)

-- no era is left
pub none_left : (s : Seconds) (eras : List CronEra) (b : Begin) (at : ℕ) → length eras ≤ at → (IsHistory eras → NoneSoFar s eras b at)
    → IsFound eras IsEarliest (IsSought s eras b) None
none_left s eras b at end low = (
  tt,
  λ h r sought.
      let (i, item) = sought.0 in
      let (e, get, of, still) = item in
      let within = slice_get_within eras i e get in
      let past : at ≤ i = low h i r item sought.1 in
      absurd (omega arith),
)
