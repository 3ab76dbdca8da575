-- Where an item stands on the timeline.
use Rattle.std.proofs.Common.{◌≡◌, ℕ, ◌<◌, Bool, true, false, ◌&&◌, nat_eq, List, [], Some, refl, sym, ap, ◌∙◌, subst, slice_get}
use Rattle.std.proofs.Props.{props}
use Rattle.std.proofs.lemmas.Bool.{and_parts, eqb-true}
use Rattle.std.proofs.lemmas.Bool.Decides.{Decides-int_eq}
use Rattle.std.specs.Ordering.{int_eq}
use mathlib.Core.HLevel.{is_prop→PathP}
use Rattle.jiff_core.specs.Timestamp.{IsOffsetSeconds}
use Rattle.jiff_core.specs.declared.Offset.{Offset}
use Rattle.std.proofs.lemmas.Option.{slice_get_within}
use Rattle.jiff_tz.specs.declared.timezone.TimeZone.{TimeZone}
use Rattle.cron_units.specs.Sets.{Sets}
use Rattle.cron_moments.specs.Civil.{civil, seconds_in_range}
use Rattle.cron_time.specs.Matches.{matches}
use Rattle.cron_moments.specs.Found.{found_items}
use Rattle.cron_time.specs.Walk.Inner.Placed.{index, place_of, reading_of, cursor_of, IsKept}
use Rattle.cron_moments.specs.Readings.{Reading, readings}
use Rattle.cron_time.specs.Walk.Resume.{IsAbsent, IsAtItem}
use Rattle.cron_time.specs.Seconds as seconds
use Rattle.cron_time.specs.Search.{items_of}
use Rattle.cron_time.specs.Timeline.{seconds_of, timeline}
use Rattle.cron_moments.specs.declared.readings.Found.{Found}
use Rattle.cron_time.specs.Walk.Inner.Stand as Kept
use Rattle.cron_time.proofs.JoinedLemmas.{Owner, owner}
use Rattle.cron_time.proofs.PlaceLemmas.{nothing_in_nil}
use Rattle.cron_time.proofs.Walks.StepLemmas.{kept_item, reading_of-item}
use Rattle.cron_time.proofs.TimelineLemmas.{items_of-second, timeline-joined}

-- an item of the timeline is one of the items of its civil second, which is in range
record IsItem (s : Sets) (z : TimeZone) (r : Reading) : Type 0 where
  high : r.second < seconds_in_range
  at : ℕ
  here : slice_get (items_of s z r.second) at ≡ Some r

item_of_by : (s : Sets) (z : TimeZone) (r : Reading) (c j : ℕ) → r.second ≡ c → c < seconds_in_range → slice_get (items_of s z c) j ≡ Some r → IsItem s z r
item_of_by s z r c j second high here =
    record {
      high = rw second high;
      at = j;
      here = subst (λ (n : ℕ). slice_get (items_of s z n) j ≡ Some r) (sym second) here;
    }

item_of : (s : Sets) (z : TimeZone) (i : ℕ) (r : Reading) → slice_get (timeline s z) i ≡ Some r → IsItem s z r
item_of s z i r e =
    let own : Owner (items_of s z) seconds_in_range i r = owner (items_of s z) seconds_in_range i r (rw (timeline-joined (seconds_of s) z) at e) in
    item_of_by s z r own.number own.place (items_of-second (seconds_of s) z own.number own.place r own.here) own.below own.here

-- a moment past the range stands nowhere
pub absent_past : (s : Sets) (z : TimeZone) (r : Reading) → ¬ (r.second < seconds_in_range) → IsAbsent s z r
absent_past s z r past = λ i e. past (item_of s z i r e).high

-- nor does one that is none of the items of its civil second
pub absent_among : (s : Sets) (z : TimeZone) (r : Reading) (items : List Reading) → items ≡ items_of s z r.second
    → ((j : ℕ) → slice_get items j ≡ Some r → ⊥) → IsAbsent s z r
absent_among s z r items same none = λ i e.
    let item = item_of s z i r e in
    none item.at (subst (λ (xs : List Reading). slice_get xs item.at ≡ Some r) (sym same) item.here)

pub absent_nowhere : (s : Sets) (z : TimeZone) (r : Reading) → [] ≡ items_of s z r.second → IsAbsent s z r
absent_nowhere s z r same = absent_among s z r [] same (λ j. nothing_in_nil j r)

-- what is kept of an item's civil second
pub kept_of : (s : Sets) (z : TimeZone) (r : Reading) (f : Found) (later : Bool) → r.second < seconds_in_range → found_items f ≡ items_of s z r.second
    → reading_of f later ≡ Some r → IsKept s z f later
kept_of s z r f later high same is =
    let first : f.first.second ≡ r.second = items_of-second (seconds_of s) z r.second 0 f.first (subst (λ (xs : List Reading). slice_get xs 0 ≡ Some f.first) same refl) in
    record {
      high = rw first high;
      items = ap (items_of s z) first ∙ sym same;
      inside = slice_get_within (found_items f) (index later) r (reading_of-item f later ∙ is);
    }

pub at_item : (s : Sets) (z : TimeZone) (r : Reading) (f : Found) (later : Bool) → IsKept s z f later → reading_of f later ≡ Some r
    → IsAtItem s z r (cursor_of s z (Kept.At f later))
at_item s z r f later kept is =
    record { place = place_of s z f.first.second later; item = kept_item s z f later kept ∙ is; cursor = refl }

-- ---- equal moments

same_offset : (a b : Offset) → a.seconds ≡ b.seconds → a ≡ b
same_offset a b p = λ i. record { seconds = p i; in_range = is_prop→PathP (λ j. IsOffsetSeconds (p j)) (λ j. hlevel props) a.in_range b.in_range i }

-- readings whose parts are equal are the same
pub same_reading : (a b : Reading) → (nat_eq a.second b.second && int_eq a.offset.seconds b.offset.seconds) ≡ true → a ≡ b
same_reading a b e =
    let parts = and_parts (nat_eq a.second b.second) (int_eq a.offset.seconds b.offset.seconds) e in
    let p = eqb-true a.second b.second parts.0 in
    let q = same_offset a.offset b.offset ((Decides-int_eq a.offset.seconds b.offset.seconds).0 parts.1) in
    λ i. record { second = p i; offset = q i }

-- ---- the items of a civil second

pub no_items : (s : Sets) (z : TimeZone) (c : ℕ) → matches s (civil c) ≡ false → [] ≡ items_of s z c
unfolding seconds.items_of
no_items s z c e = rw e refl

pub all_items : (s : Sets) (z : TimeZone) (c : ℕ) → matches s (civil c) ≡ true → readings z c ≡ items_of s z c
unfolding seconds.items_of
all_items s z c e = rw e refl
