-- The last item of a history: what a search back in one era tells of the whole.
use Rattle.std.proofs.Common.{◌≡◌, ℕ, ◌+◌, ◌<◌, ◌≤◌, min, ℤ, pos, ◌-ℤ◌, ◌*ℤ◌, ◌<ℤ◌, ◌≤ℤ◌, int_le, true, false, List, Option, Some, None, inl, inr, refl, subst, arith}
use Rattle.std.specs.Prelude.{MatchOption, slice_get, length}
use Rattle.std.proofs.lemmas.Option.{slice_get_within}
use Rattle.std.specs.Int.{int_div_euclid}
use Rattle.jiff_core.proofs.SignedLemmas.{signed_arith}
use Rattle.jiff_core.specs.declared.Timestamp.{Timestamp}
use Rattle.jiff_tz.specs.declared.timezone.TimeZone.{TimeZone}
use Rattle.cron_time.specs.Seconds.{Seconds}
use Rattle.cron_moments.specs.Readings.{Reading, instant}
use Rattle.cron_instants.specs.Instants.{IsBy, IsItem, IsLastBy, IsLatest}
use Rattle.cron_seconds.proofs.IntLemmas.{int_le-false, int_le-true}
use Rattle.cron_instants.proofs.OrderLemmas.{before-not_less}
use Rattle.std.proofs.lemmas.Int.{ints}
use Rattle.cron_c.specs.Histories.{AllBelow, EndsIn, IsHistory, IsHistoryItem, IsItemAt, IsLastInBy, IsZoneAt, has_started, started_by}
use Rattle.cron_c.specs.declared.era.CronEra.{CronEra}
use Rattle.cron_c.proofs.Eras.{era_by_era, from_zone, in_zone, last_or_before, not_before, not_past_place}

le_no : (a b : ℤ) → b <ℤ a → int_le a b ≡ false
le_no a b h = grind (arith, ints)

-- ---- one era

-- what the search back in its zone finds, for the era at a place
module _ (s : Seconds) (eras : List CronEra) (at : ℕ) (e : CronEra) (z : TimeZone) (now t : ℤ) (here : slice_get eras at ≡ Some e)
    (zone : IsZoneAt eras at z) (ends : EndsIn eras at now t) where
  looked_at : (r : Reading) → IsItemAt s eras at r × IsBy now r → (IsItem s z r × IsBy t r) × (e.starts ≤ℤ instant r)
  looked_at r h =
      let (on, from, still) = in_zone s eras at e z r here zone h.0 in
      ((on, (ends r).1 (h.1, still)), from)

  pub none_found : IsLastBy s z t None → IsLatest (λ r. IsItemAt s eras at r × IsBy now r) None
  none_found none = λ r h. none r (looked_at r h).0

  pub found_early : (m : Reading) → IsLastBy s z t (Some m) → has_started eras at (instant m) ≡ false → IsLatest (λ r. IsItemAt s eras at r × IsBy now r) None
  found_early m last ahead = λ r h.
      let (mine, from) = looked_at r h in
      let early : instant m <ℤ e.starts = int_le-false e.starts (instant m) (rw here at ahead) in
      let le = not_before m r (last.1 r mine) in
      absurd (omega (arith, signed_arith))

  pub found_here : (m : Reading) → IsLastBy s z t (Some m) → has_started eras at (instant m) ≡ true → IsLatest (λ r. IsItemAt s eras at r × IsBy now r) (Some m)
  found_here m last begun =
      let from : e.starts ≤ℤ instant m = int_le-true e.starts (instant m) (rw here at begun) in
      let (by, still) = (ends m).0 last.0.1 in
      ((from_zone s eras at e z m here zone last.0.0 from still, by), λ q h. last.1 q (looked_at q h).0)

-- no item of the era is so early
pub never_by : (s : Seconds) (eras : List CronEra) (at : ℕ) (now : ℤ)
    → ((r : Reading) → IsBy now r → has_started eras (at + 1) (instant r) ≡ false → ⊥) → IsLatest (λ r. IsItemAt s eras at r × IsBy now r) None
never_by s eras at now never = λ r h.
    let (e, here, of, still) = h.0 in
    never r h.1 still

-- the last instant before the era's start
pub before_start : (e : CronEra) (until before floor : ℤ) → floor ≡ int_div_euclid until (pos 1_000_000_000) → e.starts ≤ℤ floor
    → before ≡ (e.starts -ℤ pos 1) *ℤ pos 1_000_000_000
    → ((r : Reading) → instant r <ℤ e.starts → IsBy until r → IsBy before r) × ((r : Reading) → IsBy before r → IsBy until r × (instant r <ℤ e.starts))
before_start e until before floor floor_is le at = (
  λ r early by. omega (arith, signed_arith),
  λ r h.
      let by : (instant r *ℤ pos 1_000_000_000) ≤ℤ before = h in
      let early : instant r <ℤ e.starts = omega (arith, signed_arith) in
      (omega (arith, signed_arith), early),
)

before_next : (o : Option CronEra) (e : CronEra) (t : ℤ) → o ≡ Some e → started_by o t ≡ false → t <ℤ e.starts
before_next None e t is still = absurd (cc)
before_next (Some x) e t is still =
    let same : x ≡ e = cc in
    subst (λ (y : CronEra). t <ℤ y.starts) same (int_le-false x.starts t still)

-- what comes by an instant before the next era starts
pub ends_before : (eras : List CronEra) (at : ℕ) (e : CronEra) (now : ℤ) (found : Option Timestamp) → slice_get eras (at + 1) ≡ Some e
    → MatchOption found ((r : Reading) → instant r <ℤ e.starts → IsBy now r → ⊥)
    (λ t. ((r : Reading) → instant r <ℤ e.starts → IsBy now r → IsBy t.nanosecond r)
    × ((r : Reading) → IsBy t.nanosecond r → IsBy now r × (instant r <ℤ e.starts)))
    → MatchOption found ((r : Reading) → IsBy now r → has_started eras (at + 1) (instant r) ≡ false → ⊥) (λ t. EndsIn eras at now t.nanosecond)
ends_before eras at e now None next never = λ r by still. never r (before_next (slice_get eras (at + 1)) e (instant r) next still) by
ends_before eras at e now (Some t) next both = λ r. (
  λ by. let (until, early) = both.1 r by in
      (until, rw next (le_no e.starts (instant r) early)),
  λ h. both.0 r (before_next (slice_get eras (at + 1)) e (instant r) next h.1) h.0,
)

-- the last era has no end
pub ends_not : (eras : List CronEra) (at : ℕ) (now : ℤ) → slice_get eras (at + 1) ≡ None → EndsIn eras at now now
ends_not eras at now none = λ r. (λ by. (by, rw none refl), λ h. h.0)

-- ---- the search for the last item

-- past the era that holds the instant no item lies by it
pub below_held : (s : Seconds) (eras : List CronEra) (now floor : ℤ) (held left : ℕ) → floor ≡ int_div_euclid now (pos 1_000_000_000)
    → has_started eras (held + 1) floor ≡ false → left ≡ min (length eras) (held + 1) → IsHistory eras → AllBelow s eras now left
below_held s eras now floor held left floor_is ahead left_is h = λ i r item by.
    let le : instant r ≤ℤ floor = omega (arith, signed_arith) in
    let below = not_past_place s eras (held + 1) floor h ahead i r item le in
    let (e, get, of, still) = item in
    let within = slice_get_within eras i e get in
    omega arith

-- the era has none by it, and those that are passed over have none
pub none_back : (s : Seconds) (eras : List CronEra) (now : ℤ) (at left next : ℕ) → left ≡ at + 1 → IsLatest (λ r. IsItemAt s eras at r × IsBy now r) None
    → ((i : ℕ) (r : Reading) → i < at → IsItemAt s eras i r → i < next) → AllBelow s eras now left → AllBelow s eras now next
none_back s eras now at left next count none passed low = λ i r item by.
    let below = low i r item by in
    elim (last_or_before i at (omega arith)) [
      | inl same ↦ absurd (none r (subst (λ (n : ℕ). IsItemAt s eras n r) same item, by))
      | inr before ↦ passed i r before item
    ]

-- its last item is the last of the history
pub last_here : (s : Seconds) (eras : List CronEra) (now : ℤ) (at left : ℕ) (m : Reading) → left ≡ at + 1
    → IsLatest (λ r. IsItemAt s eras at r × IsBy now r) (Some m) → (IsHistory eras → AllBelow s eras now left) → IsLastInBy s eras now (Some m)
last_here s eras now at left m count last low = (
  ((at, last.0.0), last.0.1),
  λ h. (
    ((at, last.0.0), last.0.1),
    λ q sought.
        let (item, by) = sought in
        let below = low h item.0 q item.1 by in
        elim (last_or_before item.0 at (omega arith)) [
          | inl same ↦ last.1 q (subst (λ (n : ℕ). IsItemAt s eras n q) same item.1, by)
          | inr before ↦
              let earlier = era_by_era s eras item.0 at q m h before item.1 last.0.0 in
              before-not_less (instant m) m.second (instant q) q.second earlier
        ],
  ),
)

-- no era is left
pub none_back_left : (s : Seconds) (eras : List CronEra) (now : ℤ) (left : ℕ) → left ≤ 0 → (IsHistory eras → AllBelow s eras now left)
    → IsLastInBy s eras now None
none_back_left s eras now left end low = (
  tt,
  λ h r sought.
      let (item, by) = sought in
      let below = low h item.0 r item.1 by in
      absurd (omega arith),
)

-- the last item by a second lies at another one, and then none lies at it
pub none_at : (s : Seconds) (eras : List CronEra) (second : ℤ) (m : Reading)
    → IsLatest (λ q. IsHistoryItem s eras q × IsBy (second *ℤ pos 1_000_000_000) q) (Some m)
    → (instant m ≡ second → ⊥) → (r : Reading) → IsHistoryItem s eras r → instant r ≡ second → ⊥
none_at s eras second m last other r item same =
    let by : (instant r *ℤ pos 1_000_000_000) ≤ℤ (second *ℤ pos 1_000_000_000) = omega (arith, signed_arith) in
    let le = not_before m r (last.1 r (item, by)) in
    let upper : (instant m *ℤ pos 1_000_000_000) ≤ℤ (second *ℤ pos 1_000_000_000) = last.0.1 in
    other (omega (arith, signed_arith))
