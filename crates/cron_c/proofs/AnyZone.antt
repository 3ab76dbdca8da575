-- The zones that a struct says differ in the names of their times alone, and have the same items.
use Rattle.std.proofs.Common.{◌≡◌, ℕ, pos, List, [], ◌∷◌, Option, Some, None, refl, sym, ap, subst, ◌∙◌, arith}
use Rattle.std.specs.Prelude.{slice_get, filter}
use Rattle.std.specs.List.{flat_map}
use Rattle.jiff_core.specs.declared.Offset.{Offset}
use Rattle.jiff_core.specs.declared.civil.datetime.DateTime.{DateTime}
use Rattle.jiff_tz.specs.PosixRule.{ambiguous_at_by}
use Rattle.jiff_tz.specs.Zone.{ambiguous_at}
use Rattle.jiff_tz.specs.declared.posix.Dst.{Dst}
use Rattle.jiff_tz.specs.declared.timezone.TimeZone.{TimeZone}
use Rattle.jiff_tz.specs.declared.timezone.TimeZone.TheVariants.{UTC, Unknown, Fixed, Posix, Tzif}
use Rattle.cron_time.specs.Seconds.{Seconds, items_below, numbers_below, timeline}
use Rattle.cron_moments.specs.Civil.{civil, seconds_in_range}
use Rattle.cron_moments.specs.Readings.{Reading, readings, readings_by}
use Rattle.cron_instants.specs.Instants.{IsItem}
use Rattle.cron_clocks.proofs.TableLemmas.{same_offset}
use Rattle.cron_c.specs.Inner.AnyOffset.{not_utc, turn_once}
use Rattle.cron_c.specs.Zones.{IsSavingIn, IsZoneIn}
use Rattle.cron_c.specs.declared.zone.CronZone.{CronZone}

saving_once : (c : CronZone) (std : Offset) (a b : Option Dst) (dt : DateTime) → IsSavingIn c a → IsSavingIn c b
    → ambiguous_at_by std a dt ≡ ambiguous_at_by std b dt
saving_once c std None None dt p q = refl
saving_once c std None (Some b) dt p q = absurd (omega (arith, p, q.0))
saving_once c std (Some a) None dt p q = absurd (omega (arith, p.0, q))
saving_once c std (Some a) (Some b) dt p q =
    let (kind, saving, starts, ends) = p in
    let (kind', saving', starts', ends') = q in
    rw (
      same_offset a.offset b.offset (sym saving ∙ saving'),
      turn_once c.starts a.rule.start b.rule.start dt.date.year (pos 0) starts starts',
      turn_once c.ends a.rule.end b.rule.end dt.date.year (pos 0) ends ends',
    ) refl

zone_once : (c : CronZone) (a b : TimeZone) (dt : DateTime) → IsZoneIn c a → IsZoneIn c b → ambiguous_at a dt ≡ ambiguous_at b dt
unfolding ambiguous_at
zone_once c UTC UTC dt p q = refl
zone_once c UTC Unknown dt p q = absurd q
zone_once c UTC (Fixed o) dt p q = absurd q
zone_once c UTC (Posix b) dt p q = absurd (not_utc c b.dst p q.1)
zone_once c UTC (Tzif t) dt p q = absurd q
zone_once c Unknown b dt p q = absurd p
zone_once c (Fixed o) b dt p q = absurd p
zone_once c (Posix a) UTC dt p q = absurd (not_utc c a.dst q p.1)
zone_once c (Posix a) Unknown dt p q = absurd q
zone_once c (Posix a) (Fixed o) dt p q = absurd q
zone_once c (Posix a) (Posix b) dt p q =
    rw (same_offset a.std_offset b.std_offset (sym p.0 ∙ q.0)) (saving_once c b.std_offset a.dst b.dst dt p.1 q.1)
zone_once c (Posix a) (Tzif t) dt p q = absurd q
zone_once c (Tzif t) b dt p q = absurd p

readings_once : (c : CronZone) (a b : TimeZone) (n : ℕ) → IsZoneIn c a → IsZoneIn c b → readings a n ≡ readings b n
unfolding readings
readings_once c a b n p q = ap (readings_by n) (zone_once c a b (civil n) p q)

items_alike : (a b : TimeZone) (l : List ℕ) → ((n : ℕ) → readings a n ≡ readings b n) → flat_map (readings a) l ≡ flat_map (readings b) l
items_alike a b [] same = refl
items_alike a b (n ∷ l) same = rw (same n, items_alike a b l same) refl

timeline_once : (s : Seconds) (c : CronZone) (a b : TimeZone) → IsZoneIn c a → IsZoneIn c b → timeline s a ≡ timeline s b
unfolding timeline items_below
timeline_once s c a b p q =
    items_alike a b (filter s (numbers_below seconds_in_range)) (λ n. readings_once c a b n p q)

-- an item in one of them is an item in the others
pub item_in_any : (s : Seconds) (c : CronZone) (a b : TimeZone) (r : Reading) → IsZoneIn c a → IsZoneIn c b → IsItem s a r → IsItem s b r
item_in_any s c a b r p q item = (item.0, subst (λ (l : List Reading). slice_get l item.0 ≡ Some r) (timeline_once s c a b p q) item.1)
