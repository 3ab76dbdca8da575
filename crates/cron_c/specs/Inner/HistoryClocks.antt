-- The clock of a history. It is the same, whichever zones are taken for the structs of the eras.
use Rattle.std.specs.Prelude.{◌≡◌, ℕ, suc, ℤ, int_le, Bool, true, false, if◌then◌else◌, List, [], ◌∷◌, Some, slice_get}
use Rattle.std.specs.Coded.{Coded-set, coded_ℤ}
use Rattle.std.proofs.Common.{refl, sym, ◌∙◌}
use mathlib.Core.HLevel.{Σ_prop_path}
use mathlib.Core.Logic.{∥∥₁_elim, ∥∥₁_prop}
use Rattle.jiff_core.specs.declared.Offset.{Offset}
use Rattle.jiff_tz.specs.declared.timezone.TimeZone.TheVariants.{UTC}
use Rattle.cron_clocks.proofs.TableLemmas.{same_offset}
use Rattle.cron_dues.specs.Clock.Due.{Clock, clock_of}
use Rattle.cron_c.specs.Histories.{IsHistory}
use Rattle.cron_c.specs.HistoryClocks.{era_at}
use Rattle.cron_c.specs.Inner.AnyOffset.{offset_in_any}
use Rattle.cron_c.specs.Zones.{IsSomeZone}
use Rattle.cron_c.specs.declared.era.CronEra.{CronEra}

pub either : (b : Bool) (one other : CronEra) → IsSomeZone one.zone → IsSomeZone other.zone → IsSomeZone (if b then one else other).zone
either true one other here there = here
either false one other here there = there

-- the zone of an era's struct: of the era that holds the second n
unfoldable pub zone_held : (e : CronEra) (later : List CronEra) → IsSomeZone e.zone → ((i : ℕ) (x : CronEra) → slice_get later i ≡ Some x → IsSomeZone x.zone)
    → (n : ℤ) → IsSomeZone (era_at e later n).zone
unfolding era_at
zone_held e [] own past n = own
zone_held e (next ∷ later) own past n =
    either (int_le next.starts n) (era_at next later n) e (zone_held next later (past 0 next refl) (λ i x h. past (suc i) x h) n) own

unfoldable pub history_clock : (eras : List CronEra) → IsHistory eras → Clock
history_clock [] h n = clock_of UTC n
history_clock (e ∷ later) h n = clock_of (zone_held e later (h.zones 0 e refl) (λ i x g. h.zones (suc i) x g) n).0 n

-- ---- of eras that are known to be a history

pub seconds_set : (a b : ℤ) → IsProp (a ≡ b)
seconds_set a b = Coded-set coded_ℤ a b

once : (eras : List CronEra) (h g : IsHistory eras) (n : ℤ) → (history_clock eras h n).seconds ≡ (history_clock eras g n).seconds
unfolding history_clock
once [] h g n = refl
once (e ∷ later) h g n =
    let one = zone_held e later (h.zones 0 e refl) (λ i x get. h.zones (suc i) x get) n in
    let other = zone_held e later (g.zones 0 e refl) (λ i x get. g.zones (suc i) x get) n in
    offset_in_any (era_at e later n).zone one.0 other.0 n one.1 other.1

abbrev pub Held : List CronEra → ℤ → Type 0
Held eras n = (o : Offset) × ∥ ((h : IsHistory eras) × (o.seconds ≡ (history_clock eras h n).seconds)) ∥₁

pub held_once : (eras : List CronEra) (n : ℤ) → IsProp (Held eras n)
held_once eras n s t =
    Σ_prop_path (λ o. ∥∥₁_prop)
    (same_offset s.0 t.0
    (∥∥₁_elim s.1 (seconds_set s.0.seconds t.0.seconds)
    (λ one. ∥∥₁_elim t.1 (seconds_set s.0.seconds t.0.seconds) (λ other. one.1 ∙ once eras one.0 other.0 n ∙ sym other.1))))

unfoldable pub held_of : (eras : List CronEra) (h : IsHistory eras) (n : ℤ) → Held eras n
held_of eras h n = (history_clock eras h n, ∣ (h, refl) ∣₁)

unfoldable pub held_by : (eras : List CronEra) → ∥ IsHistory eras ∥₁ → (n : ℤ) → Held eras n
held_by eras t n = ∥∥₁_elim t (held_once eras n) (λ h. held_of eras h n)

-- the clock of eras of which it is only known that they are a history, not by which zones
unfoldable pub held_clock : (eras : List CronEra) → ∥ IsHistory eras ∥₁ → Clock
held_clock eras t n = (held_by eras t n).0
