-- Which eras a search passes over.
use Rattle.std.proofs.Common.{◌≡◌, ℕ, ◌+◌, ◌-◌, ◌<◌, ◌≤◌, ℤ, pos, ◌+ℤ◌, ◌-ℤ◌, ◌≤ℤ◌, true, false, List, Some, None, ◌⊎◌, inl, inr, subst, arith}
use Rattle.std.specs.Prelude.{slice_get}
use Rattle.jiff_core.proofs.SignedLemmas.{signed_arith}
use Rattle.jiff_tz.specs.declared.timezone.TimeZone.{TimeZone}
use Rattle.cron_units.specs.Nearest.{IsNearest, IsNearestAt}
use Rattle.cron_time.specs.Seconds.{Seconds, is_match}
use Rattle.cron_units.specs.declared.way.Way.TheVariants.{Ahead, Back}
use Rattle.cron_moments.specs.Civil.{seconds_in_range}
use Rattle.cron_moments.specs.Readings.{Reading, instant}
use Rattle.cron_instants.specs.Instants.{IsItem}
use Rattle.cron_instants.proofs.ItemLemmas.{stands_of}
use Rattle.cron_seconds.proofs.SetLemmas.{match_in_range}
use Rattle.cron_c.specs.Histories.{IsHistory, IsItemAt, StartsAt, has_started}
use Rattle.cron_c.specs.declared.era.CronEra.{CronEra}
use Rattle.cron_c.proofs.Eras.{clash, from_or_before, not_before_place, not_past_place, start_far, starts_by}

-- ---- where matches lie among the instants

pub none_from : (s : Seconds) (second from : ℤ) → ((r : Reading) → second ≤ℤ instant r → from ≤ℤ pos r.second) → IsNearest Ahead (is_match s) from None
    → (z : TimeZone) (r : Reading) → IsItem s z r → second ≤ℤ instant r → ⊥
none_from s second from low none z r item le = clash (is_match s r.second) (stands_of s z r item).matching (none r.second (low r le))

pub earliest_is : (s : Seconds) (second from t : ℤ) (next : ℕ) → t ≡ pos next -ℤ pos 93_599 → ((r : Reading) → second ≤ℤ instant r → from ≤ℤ pos r.second)
    → IsNearestAt Ahead (is_match s) from next
    → (z : TimeZone) (r : Reading) → IsItem s z r → second ≤ℤ instant r → t ≤ℤ instant r
earliest_is s second from t next is low near z r item le = elim (from_or_before next r.second) [
  | inl past ↦ let (least, most) = r.offset.in_range in omega (arith, signed_arith)
  | inr before ↦
      absurd (clash (is_match s r.second) (stands_of s z r item).matching (near.nearest r.second (low r le) before))
]

pub none_by : (s : Seconds) (second from : ℤ) → ((r : Reading) → r.second < seconds_in_range → instant r ≤ℤ second → pos r.second ≤ℤ from)
    → IsNearest Back (is_match s) from None → (z : TimeZone) (r : Reading) → IsItem s z r → instant r ≤ℤ second → ⊥
none_by s second from low none z r item le =
    let matching = (stands_of s z r item).matching in
    clash (is_match s r.second) matching (none r.second (low r (match_in_range s r.second matching) le))

pub latest_is : (s : Seconds) (second from t : ℤ) (next : ℕ) → t ≡ pos next +ℤ pos 93_599 → ((r : Reading) → r.second < seconds_in_range → instant r ≤ℤ second → pos r.second ≤ℤ from)
    → IsNearestAt Back (is_match s) from next
    → (z : TimeZone) (r : Reading) → IsItem s z r → instant r ≤ℤ second → instant r ≤ℤ t
latest_is s second from t next is low near z r item le =
    let matching = (stands_of s z r item).matching in
    elim (from_or_before (next + 1) r.second) [
      | inl past ↦
          absurd (clash (is_match s r.second) matching (near.nearest r.second (low r (match_in_range s r.second matching) le) (omega arith)))
      | inr before ↦ let (least, most) = r.offset.in_range in omega (arith, signed_arith)
    ]

-- ---- which eras they leave

item_past : (s : Seconds) (eras : List CronEra) (at : ℕ) (starts : ℤ) → StartsAt eras (at + 1) starts → IsHistory eras → (i : ℕ) (r : Reading) → at < i
    → IsItemAt s eras i r → (z : TimeZone) × IsItem s z r × (starts ≤ℤ instant r)
item_past s eras at starts (next, here, is) h i r less (e, get, of, still) =
    let ((z, of_zone, on), begun) = of in
    let from : next.starts ≤ℤ e.starts =
    start_far eras h (at + 1) (i - (at + 1)) next e here (subst (λ (n : ℕ). slice_get eras n ≡ Some e) (omega arith) get) in
    (z, on, omega (arith, signed_arith))

item_before : (s : Seconds) (eras : List CronEra) (at : ℕ) (starts : ℤ) → StartsAt eras at starts → IsHistory eras → (i : ℕ) (r : Reading) → i < at
    → IsItemAt s eras i r → (z : TimeZone) × IsItem s z r × (instant r ≤ℤ starts)
item_before s eras at starts (e, here, is) h i r less (x, get, of, still) =
    let ((z, of_zone, on), begun) = of in
    let before = starts_by eras h i at e (instant r) less here still in
    (z, on, omega (arith, signed_arith))

pub past_place : (s : Seconds) (eras : List CronEra) (at place : ℕ) (starts t : ℤ) → StartsAt eras (at + 1) starts
    → ((z : TimeZone) (r : Reading) → IsItem s z r → starts ≤ℤ instant r → t ≤ℤ instant r)
    → (place ≡ 0) ⊎ (has_started eras place t ≡ true) → IsHistory eras → (i : ℕ) (r : Reading) → at < i → IsItemAt s eras i r → place ≤ i
past_place s eras at place starts t next low begun h i r less item =
    let (z, on, from) = item_past s eras at starts next h i r less item in
    not_before_place s eras place t h begun i r item (low z r on from)

pub never_past : (s : Seconds) (eras : List CronEra) (at : ℕ) (starts : ℤ) → StartsAt eras (at + 1) starts
    → ((z : TimeZone) (r : Reading) → IsItem s z r → starts ≤ℤ instant r → ⊥) → IsHistory eras → (i : ℕ) (r : Reading) → at < i
    → IsItemAt s eras i r → ⊥
never_past s eras at starts next never h i r less item =
    let (z, on, from) = item_past s eras at starts next h i r less item in
    never z r on from

pub left_place : (s : Seconds) (eras : List CronEra) (at place : ℕ) (starts t : ℤ) → StartsAt eras at starts
    → ((z : TimeZone) (r : Reading) → IsItem s z r → instant r ≤ℤ starts → instant r ≤ℤ t) → has_started eras (place + 1) t ≡ false
    → IsHistory eras → (i : ℕ) (r : Reading) → i < at → IsItemAt s eras i r → i < place + 1
left_place s eras at place starts t here low ahead h i r less item =
    let (z, on, by) = item_before s eras at starts here h i r less item in
    not_past_place s eras (place + 1) t h ahead i r item (low z r on by)

pub never_left : (s : Seconds) (eras : List CronEra) (at : ℕ) (starts : ℤ) → StartsAt eras at starts
    → ((z : TimeZone) (r : Reading) → IsItem s z r → instant r ≤ℤ starts → ⊥) → IsHistory eras → (i : ℕ) (r : Reading) → i < at
    → IsItemAt s eras i r → ⊥
never_left s eras at starts here never h i r less item =
    let (z, on, by) = item_before s eras at starts here h i r less item in
    never z r on by
