-- Items of a walk written one after the other.
use Rattle.std.proofs.Common.{◌≡◌, ℕ, ◌+◌, ◌<◌, ℤ, List, [], ◌∷◌, ◌++◌, Some, None, refl, sym, ap, subst, ◌∙◌, arith, append_assoc, slice_set, length-append, inl, inr}
use Rattle.std.specs.Prelude.{length}
use Rattle.jiff_tz.specs.declared.timezone.TimeZone.{TimeZone}
use Rattle.cron_units.specs.Sets.{Sets}
use Rattle.cron_units.specs.declared.way.Way.{Way}
use Rattle.cron_time.specs.Walk.Cursor.{Walk}
use Rattle.cron_time.specs.Walk.Inner.Placed.{IsPlaced, answer_of, cursor_of}
use Rattle.cron_time.specs.Walk.Inner.Stand.{Stand}
use Rattle.cron_time.specs.Walk.Inner.Stand as Kept
use Rattle.cron_time.specs.Walk.Inner.Stop.{IsStop}
use Rattle.cron_moments.specs.Readings.{Reading}
use Rattle.cron_time.specs.Walk.Resume.{IsAtItem, IsResumed}
use Rattle.cron_time.specs.Walk.Rest.{rest}
use Rattle.cron_time.proofs.Walks.RestLemmas.{gives}
use Rattle.cron_c.specs.Arrays.{IsFront}
use Rattle.cron_c.specs.Listings.{IsListed, walk_at}
use Rattle.cron_c.specs.Structs.{IsItem}
use Rattle.cron_c.specs.declared.item.CronItem.{CronItem}
use Rattle.cron_c.proofs.Arrays.{front_more, front_none}

-- so many items of a walk are written, and it stands at the last of them
pub record IsFilling (way : Way) (s : Sets) (z : TimeZone) (start : Stand) (old now : List CronItem) (stand : Stand) (count : ℕ) : Type 0 where
  pub written : List Reading
  pub cut : rest way (walk_at s z start) ≡ written ++ rest way (walk_at s z stand)
  pub items : IsFront IsItem written old now
  pub counted : count ≡ length written
  pub placed : IsPlaced s z stand

pub start_is_placed : (s : Sets) (z : TimeZone) (t : ℤ) (stand : Stand) → stand ≡ Kept.Start t → IsPlaced s z stand
start_is_placed s z t stand e = subst (IsPlaced s z) (sym e) tt

pub filling_begins : (way : Way) (s : Sets) (z : TimeZone) (start : Stand) (old : List CronItem) → IsPlaced s z start → IsFilling way s z start old old start 0
filling_begins way s z start old placed = record { written = []; cut = refl; items = front_none IsItem old; counted = refl; placed = placed }

pub filling_goes_on : (way : Way) (s : Sets) (z : TimeZone) (start from to : Stand) (old now : List CronItem) (count : ℕ) (r : Reading) (x : CronItem)
    → IsFilling way s z start old now from count → count < length old
    → IsStop way s z (cursor_of s z from) to → Some r ≡ answer_of to → IsItem r x → IsFilling way s z start old (slice_set now count x) to (count + 1)
filling_goes_on way s z start from to old now count r x f room stop answer item =
    let first = (gives way s z from to (walk_at s z from) (Some r) f.placed refl stop answer).items in
    let more : count + 1 ≡ length (f.written ++ r ∷ []) = omega (arith, f.counted, length-append f.written (r ∷ [])) in
    let within : length f.written < length old = omega (arith, f.counted) in
    record {
      written = f.written ++ r ∷ [];
      cut = f.cut ∙ (ap (λ (l : List Reading). f.written ++ l) first ∙ sym (append_assoc f.written (r ∷ []) (rest way (walk_at s z to))));
      items = subst (λ (n : ℕ). IsFront IsItem (f.written ++ r ∷ []) old (slice_set now n x)) (sym f.counted) (front_more IsItem f.written old now r x f.items within item);
      counted = more;
      placed = stop.placed;
    }

pub filling_ends : (way : Way) (s : Sets) (z : TimeZone) (start from to : Stand) (old now : List CronItem) (count : ℕ)
    → IsFilling way s z start old now from count
    → IsStop way s z (cursor_of s z from) to → None ≡ answer_of to → IsListed (rest way (walk_at s z start)) old now count
filling_ends way s z start from to old now count f stop answer =
    let nothing = (gives way s z from to (walk_at s z from) None f.placed refl stop answer).items in
    record { written = f.written; left = rest way (walk_at s z from); cut = f.cut; items = f.items; counted = f.counted; most = inl nothing.0 }

pub filling_is_full : (way : Way) (s : Sets) (z : TimeZone) (start from : Stand) (old now : List CronItem) (count : ℕ)
    → IsFilling way s z start old now from count → count ≡ length old → IsListed (rest way (walk_at s z start)) old now count
filling_is_full way s z start from old now count f full =
    record { written = f.written; left = rest way (walk_at s z from); cut = f.cut; items = f.items; counted = f.counted; most = inr full }

-- what is listed from where a walk stands that has answered an item
pub listed_on : (way : Way) (s fields : Sets) (z : TimeZone) (r : Reading) (stand : Stand) (old now : List CronItem) (count : ℕ) → fields ≡ s
    → IsAtItem fields z r (cursor_of fields z stand) → IsListed (rest way (walk_at fields z stand)) old now count
    → (w : Walk) × IsResumed s z r w × IsListed (rest way w) old now count
listed_on way s fields z r stand old now count e at listed =
    subst (λ (f : Sets). (w : Walk) × IsResumed f z r w × IsListed (rest way w) old now count) e
    (walk_at fields z stand, record { sets = refl; zone = refl; at = at }, listed)
