-- The clock of a history: which era holds a second, and up to where its clock holds.
use Rattle.std.proofs.Common.{◌≡◌, ℕ, zero, suc, ◌+◌, ◌<◌, ℤ, ◌≤ℤ◌, ◌<ℤ◌, int_le, true, false, List, [], ◌∷◌, Some, ◌⊎◌, inl, inr, refl, sym, ap, subst, ◌∙◌, arith}
use Rattle.std.specs.Prelude.{length, slice_get}
use Rattle.std.proofs.lemmas.Option.{slice_get_cases}
use mathlib.Core.Logic.{∥∥₁_elim}
use Rattle.jiff_core.specs.declared.Offset.{Offset}
use Rattle.jiff_core.proofs.SignedLemmas.{signed_arith}
use Rattle.jiff_tz.specs.declared.timezone.TimeZone.{TimeZone}
use Rattle.cron_clocks.specs.Clocks.{shown_offset}
use Rattle.cron_clocks.proofs.Windows.{le_yes}
use Rattle.cron_time.proofs.PlaceLemmas.{nothing_in_nil}
use Rattle.cron_dues.specs.Clock.Due.{Clock, clock_of}
use Rattle.cron_dues.specs.Steady.{IsKept}
use Rattle.cron_c.specs.Histories.{IsHistory, IsZoneAt, has_started}
use Rattle.cron_c.specs.HistoryClocks.{InHistory, IsClockOf, era_at}
use Rattle.cron_c.specs.Inner.HistoryClocks.{Held, held_by, held_clock, held_of, held_once, history_clock, seconds_set, zone_held}
use Rattle.cron_c.specs.Zones.{IsZoneIn}
use Rattle.cron_c.specs.declared.era.CronEra.{CronEra}
use Rattle.cron_c.specs.declared.status.Status.{Status}
use Rattle.cron_c.specs.declared.status.Status.TheVariants.{Done, NoItem, Refused, NotUtf8, BadZone, BadInstant, NotAnItem, Untold, More, NoMemory}
use Rattle.cron_c.specs.Inner.AnyOffset.{offset_in_any}
use Rattle.cron_c.proofs.Eras.{here_of, start_far, started_is, started_later}

-- ---- which era holds a second

after : (e : CronEra) (later : List CronEra) (i : ℕ) (b : CronEra) → slice_get later (i + 1) ≡ Some b → slice_get (e ∷ later) (suc (i + 1)) ≡ Some b
after e later i b next = next

pub past_first : (e : CronEra) (later : List CronEra) → IsHistory (e ∷ later) → IsHistory later
past_first e later h = record {
  zones = λ i x get. h.zones (suc i) x get;
  order = λ i a b here next.
      let same : suc (i + 1) ≡ suc i + 1 = omega arith in
      h.order (suc i) a b here (subst (λ (n : ℕ). slice_get (e ∷ later) n ≡ Some b) same (after e later i b next));
}

-- it stands at the place that a search tells
place_era : (e : CronEra) (later : List CronEra) (place : ℕ) (n : ℤ) → IsHistory (e ∷ later) → (place ≡ 0) ⊎ (has_started (e ∷ later) place n ≡ true)
    → has_started (e ∷ later) (place + 1) n ≡ false → slice_get (e ∷ later) place ≡ Some (era_at e later n)
unfolding era_at
place_era e [] zero n h begun ends = refl
place_era e [] (suc place) n h (inl first) ends = absurd (omega (arith, first))
place_era e [] (suc place) n h (inr begun) ends =
    let (a, here, starts) = started_is (slice_get [] place) n begun in absurd (nothing_in_nil place a here)
place_era e (next ∷ later) zero n h begun ends =
    let late : int_le next.starts n ≡ false = ends in rw late refl
place_era e (next ∷ later) (suc place) n h (inl first) ends = absurd (omega (arith, first))
place_era e (next ∷ later) (suc place) n h (inr begun) ends =
    let one_more : suc place + 1 ≡ suc (place + 1) = omega arith in
    let past_end : has_started (e ∷ next ∷ later) (suc (place + 1)) n ≡ false =
    subst (λ (i : ℕ). has_started (e ∷ next ∷ later) i n ≡ false) one_more ends in
    let past = past_first e (next ∷ later) h in
    let (a, here, starts) = started_is (slice_get (next ∷ later) place) n begun in
    let from_none : place ≡ 0 + place = omega arith in
    let far = start_far (next ∷ later) past 0 place next a refl (subst (λ (i : ℕ). slice_get (next ∷ later) i ≡ Some a) from_none here) in
    let early : int_le next.starts n ≡ true = le_yes next.starts n (omega (arith, signed_arith)) in
    rw early (place_era next later place n past (inr begun) past_end)

pub place_within : (eras : List CronEra) (place : ℕ) (n : ℤ) → 0 < length eras → (place ≡ 0) ⊎ (has_started eras place n ≡ true) → place < length eras
place_within eras place n some (inl first) = omega (arith, first, some)
place_within eras place n some (inr begun) = here_of eras place n begun

begun_later : (eras : List CronEra) (place : ℕ) (n k : ℤ) → n ≤ℤ k → (place ≡ 0) ⊎ (has_started eras place n ≡ true)
    → (place ≡ 0) ⊎ (has_started eras place k ≡ true)
begun_later eras place n k le (inl first) = inl first
begun_later eras place n k le (inr begun) = inr (started_later (slice_get eras place) n k le begun)

-- the zones that an era says tell the same offset
pub zone_alike : (eras : List CronEra) (at : ℕ) (a b : TimeZone) (n : ℤ) → IsZoneAt eras at a → IsZoneAt eras at b → shown_offset a n ≡ shown_offset b n
zone_alike eras at a b n (e, here, of) (x, get, other) =
    let both : Some x ≡ Some e = sym get ∙ here in
    let is : x ≡ e = cc in
    offset_in_any e.zone a b n of (subst (λ (y : CronEra). IsZoneIn y.zone b) is other)

-- ---- its clock

clock_is : (eras : List CronEra) (h : IsHistory eras) → 0 < length eras → IsClockOf eras (history_clock eras h)
unfolding history_clock
clock_is [] h some = absurd (omega (arith, some))
clock_is (e ∷ later) h some = λ n.
    let held = zone_held e later (h.zones 0 e refl) (λ i x g. h.zones (suc i) x g) n in (held.0, held.1, refl)

-- while an era lasts, its zone tells the offset
held_offset : (eras : List CronEra) (h : IsHistory eras) (place : ℕ) (n : ℤ) (z : TimeZone) → IsZoneAt eras place z
    → (place ≡ 0) ⊎ (has_started eras place n ≡ true) → has_started eras (place + 1) n ≡ false
    → (history_clock eras h n).seconds ≡ shown_offset z n
unfolding history_clock
held_offset [] h place n z (e, here, of) begun ends = absurd (nothing_in_nil place e here)
held_offset (e ∷ later) h place n z (x, here, of) begun ends =
    let held = zone_held e later (h.zones 0 e refl) (λ i y g. h.zones (suc i) y g) n in
    let both : Some x ≡ Some (era_at e later n) = sym here ∙ place_era e later place n h begun ends in
    let is : x ≡ era_at e later n = cc in
    offset_in_any (era_at e later n).zone held.0 z n held.1 (subst (λ (y : CronEra). IsZoneIn y.zone z) is of)

-- ---- of a history that is known to be one

held_is : (eras : List CronEra) (t : ∥ IsHistory eras ∥₁) (h : IsHistory eras) (n : ℤ) → held_clock eras t n ≡ history_clock eras h n
unfolding held_clock held_by history_clock held_of
held_is eras t h n = ap (λ (s : Held eras n). s.0) (held_once eras n (held_by eras t n) (held_of eras h n))

clock_of_history : (eras : List CronEra) (t : ∥ IsHistory eras ∥₁) (h : IsHistory eras) → 0 < length eras → IsClockOf eras (held_clock eras t)
clock_of_history [] t h some = absurd (omega (arith, some))
clock_of_history (e ∷ later) t h some = λ n.
    let (z, of, is) = clock_is (e ∷ later) h some n in (z, of, held_is (e ∷ later) t h n ∙ is)

pub clock_kept : (eras : List CronEra) (t : ∥ IsHistory eras ∥₁) (place : ℕ) (n end first_end o : ℤ) → place < length eras
    → (place ≡ 0) ⊎ (has_started eras place n ≡ true) → ((z : TimeZone) → IsZoneAt eras place z → IsKept (clock_of z) n first_end o) → end ≤ℤ first_end
    → ((k : ℤ) → k <ℤ end → has_started eras (place + 1) k ≡ false) → IsKept (held_clock eras t) n end o
clock_kept eras t place n end first_end o within begun kept le held k low high =
    ∥∥₁_elim t (seconds_set (held_clock eras t k).seconds o) (λ h. elim (slice_get_cases eras place).1 [
      | inl there ↦
          let (e, inside, get, at) = there in
          let (z, of) = h.zones place e get in
          ap (λ (x : Offset). x.seconds) (held_is eras t h k)
          ∙ held_offset eras h place k z (e, get, of) (begun_later eras place n k low begun) (held k high)
          ∙ kept z (e, get, of) k low (omega (arith, signed_arith))
      | inr past ↦ let end_is = past.0 in absurd (omega arith)
    ])

-- ---- what is said by it

by_clock : (eras own : List CronEra) (t : ∥ IsHistory own ∥₁) → own ≡ eras → IsHistory eras → 0 < length own → IsClockOf eras (held_clock own t)
by_clock eras own t is h some =
    subst (λ (l : List CronEra). IsClockOf l (held_clock own t)) is (clock_of_history own t (subst IsHistory (sym is) h) some)

pub in_history : (eras own : List CronEra) (t : ∥ IsHistory own ∥₁) (Says : Clock → Status → Type 0) (Kept : Type 0) (status : Status) → own ≡ eras
    → IsHistory eras → 0 < length own → (Says (held_clock own t) BadZone → ⊥) → Says (held_clock own t) status → InHistory eras Says Kept status
in_history eras own t Says Kept Done is h some never says = (held_clock own t, h, by_clock eras own t is h some, says)
in_history eras own t Says Kept NoItem is h some never says = (held_clock own t, h, by_clock eras own t is h some, says)
in_history eras own t Says Kept Refused is h some never says = (held_clock own t, h, by_clock eras own t is h some, says)
in_history eras own t Says Kept NotUtf8 is h some never says = (held_clock own t, h, by_clock eras own t is h some, says)
in_history eras own t Says Kept BadZone is h some never says = absurd (never says)
in_history eras own t Says Kept BadInstant is h some never says = (held_clock own t, h, by_clock eras own t is h some, says)
in_history eras own t Says Kept NotAnItem is h some never says = (held_clock own t, h, by_clock eras own t is h some, says)
in_history eras own t Says Kept Untold is h some never says = (held_clock own t, h, by_clock eras own t is h some, says)
in_history eras own t Says Kept More is h some never says = (held_clock own t, h, by_clock eras own t is h some, says)
in_history eras own t Says Kept NoMemory is h some never says = (held_clock own t, h, by_clock eras own t is h some, says)
