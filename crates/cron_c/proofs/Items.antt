-- Structs of items, and the readings that they are of.
use Rattle.std.proofs.Common.{◌≡◌, ◌<◌, ℤ, pos, nat_abs, Option, Some, None, MatchOption, refl, sym, ap, subst, ◌∙◌, arith, true}
use Rattle.std.specs.Prelude.{IfSome}
use Rattle.std.proofs.lemmas.Int.{ints}
use Rattle.std.specs.Ordering.{int_eq}
use Rattle.std.proofs.lemmas.Bool.{eq-eqb}
use Rattle.std.proofs.lemmas.Bool.Decides.{Decides-int_eq}
use Rattle.jiff_core.proofs.SignedLemmas.{signed_arith}
use Rattle.jiff_core.specs.declared.Offset.{Offset}
use Rattle.jiff_tz.specs.declared.timezone.TimeZone.{TimeZone}
use Rattle.cron_units.specs.Sets.{Sets}
use Rattle.cron_units.specs.declared.way.Way.{Way}
use Rattle.cron_moments.specs.Civil.{seconds_in_range}
use Rattle.cron_time.specs.Walk.Cursor.{Cursor, Step, Walk, step}
use Rattle.cron_time.specs.Walk.Inner.Placed.{answer_of}
use Rattle.cron_time.specs.Walk.Inner.Stand.{Stand}
use Rattle.cron_time.specs.Walk.Inner.Stop.{IsStop}
use Rattle.cron_moments.specs.Readings.{Reading}
use Rattle.cron_time.specs.Walk.Resume.{IsAbsent, IsAtItem, IsResumed}
use Rattle.cron_moments.specs.Parts.{ShowsAt}
use Rattle.cron_time.proofs.Walks.ResumeLemmas.{same_reading}
use Rattle.cron_clocks.proofs.TableLemmas.{same_offset}
use Rattle.cron_c.specs.Structs.{IsItem}
use Rattle.cron_c.specs.declared.item.CronItem.{CronItem}

int_decides : (a b : ℤ) → a ≡ b → int_eq a b ≡ true
int_decides a b e = (Decides-int_eq a b).1 e

-- a struct is that of one reading
pub item_once : (a b : Reading) (item : CronItem) → IsItem a item → IsItem b item → a ≡ b
item_once a b item p q =
    let offset : a.offset.seconds ≡ b.offset.seconds = sym p.offset_is ∙ q.offset_is in
    let same : pos a.second ≡ pos b.second = omega (arith, signed_arith, ints, sym p.instant_is ∙ q.instant_is, offset) in
    let second : a.second ≡ b.second = ap nat_abs same in
    same_reading a b (rw (eq-eqb a.second b.second second, int_decides a.offset.seconds b.offset.seconds offset) refl)

pub absent_item : (s : Sets) (z : TimeZone) (given r : Reading) (item : CronItem) → IsItem given item → IsAbsent s z given → IsItem r item → IsAbsent s z r
absent_item s z given r item p absent q = subst (IsAbsent s z) (item_once given r item p q) absent

pub absent_of : (fields s : Sets) (z : TimeZone) (r : Reading) → fields ≡ s → IsAbsent fields z r → IsAbsent s z r
absent_of fields s z r e absent = subst (λ (f : Sets). IsAbsent f z r) e absent

-- what a struct shows at its offset is the reading that it is of
pub moment_is : (o : Option Reading) (item : CronItem) (offset : Offset) → item.reserved ≡ 0 → offset.seconds ≡ item.offset
    → IfSome o (ShowsAt item.instant offset)
    → ((r : Reading) → ShowsAt item.instant offset r → o ≡ Some r)
    → MatchOption o ((r : Reading) → IsItem r item → r.second < seconds_in_range → ⊥) (λ r. IsItem r item × (r.second < seconds_in_range))
moment_is None item offset zero e parts only = λ r is high.
    let none : None ≡ Some r = only r (record {
      in_range = high;
      instant_is = sym is.instant_is;
      offset_is = same_offset r.offset offset (sym is.offset_is ∙ sym e);
    }) in
    absurd (cc)
moment_is (Some m) item offset zero e parts only =
    (record { instant_is = sym parts.instant_is; offset_is = sym e ∙ ap (λ (o : Offset). o.seconds) (sym parts.offset_is); reserved_is = zero }, parts.in_range)

-- ---- a walk that goes on from an item

pub resumed_answer : (way : Way) (s fields : Sets) (z : TimeZone) (r : Reading) (c : Cursor) (stand : Stand) (o : Option Reading) → fields ≡ s
    → IsAtItem fields z r c → IsStop way fields z c stand → o ≡ answer_of stand
    → (w : Walk) × IsResumed s z r w × (o ≡ (step way w).answer)
resumed_answer way s fields z r c stand o e at stop is =
    subst (λ (f : Sets). (w : Walk) × IsResumed f z r w × (o ≡ (step way w).answer)) e (
      record { sets = fields; zone = z; cursor = c },
      record { sets = refl; zone = refl; at = at },
      is ∙ ap (λ (q : Step). q.answer) (sym stop.leads),
    )
