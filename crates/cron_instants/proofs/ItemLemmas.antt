-- The items of the timeline are the readings of the civil seconds that match; and where one lies among the instants.
use Rattle.std.proofs.Common.{◌≡◌, ℕ, ◌+◌, ◌<◌, ℤ, pos, Bool, true, false, ◌&&◌, cond, Option, Some, [], nat_lt, inl, inr, refl, sym, ap, subst, ◌∙◌, arith}
use Rattle.std.specs.Prelude.{slice_get}
use Rattle.std.specs.Int.{int_div_euclid}
use Rattle.std.proofs.lemmas.Option.{slice_get_within}
use Rattle.jiff_core.proofs.SignedLemmas.{signed_arith}
use Rattle.jiff_tz.specs.declared.timezone.TimeZone.{TimeZone}
use Rattle.cron_units.specs.declared.way.Way.TheVariants.{Ahead, Back}
use Rattle.cron_time.specs.Seconds.{Seconds, is_match, items_of}
use Rattle.cron_moments.specs.Civil.{seconds_in_range}
use Rattle.cron_moments.specs.Readings.{Reading, instant, readings}
use Rattle.cron_time.proofs.TimelineLemmas as timeline
use Rattle.cron_seconds.proofs.SetLemmas.{passes_in, passes_of, match_in_range}
use Rattle.cron_time.proofs.TimelineLemmas.{before, item_in, items_of-matching}
use Rattle.cron_instants.specs.Instants.{IsItem, IsAfter, IsBy, IsFirstAfter, IsFirstPast, IsLastBefore, IsLastBy}
use Rattle.cron_instants.specs.OffsetRange.{IsRead}
use Rattle.cron_instants.specs.Order.{is_earlier}
use Rattle.cron_instants.specs.Beyond.{beyond, IsBest, IsBeyond, Stands}
use Rattle.cron_instants.proofs.BestLemmas.{best_of_more}
use Rattle.cron_instants.proofs.OrderLemmas.{before-true, before-less, before-up_to}

-- ---- the timeline

pub stands_of : (s : Seconds) (z : TimeZone) (r : Reading) → IsItem s z r → Stands s z r
stands_of s z r item =
    let own = timeline.item_of s z item.0 r item.1 in
    record {
      matching = passes_in r.second (s r.second) own.in_range own.matching;
      place = own.place;
      here = own.here;
    }

pub item_of : (s : Seconds) (z : TimeZone) (r : Reading) → Stands s z r → IsItem s z r
item_of s z r st =
    let same = items_of-matching s z r.second (passes_of r.second (s r.second) st.matching) in
    let there : slice_get (items_of s z r.second) st.place ≡ Some r = ap (λ xs. slice_get xs st.place) same ∙ st.here in (
      before s z r.second + st.place,
      item_in s z r.second st.place (match_in_range s r.second st.matching)
          (slice_get_within (items_of s z r.second) st.place r there) ∙ there,
    )

-- ---- instants

pub after_beyond : (t i : ℤ) (r : Reading) → i ≡ int_div_euclid t (pos 1_000_000_000) → IsAfter t r → beyond Ahead i 4_294_967_295 r ≡ true
after_beyond t i r is after = before-less i 4_294_967_295 (instant r) r.second (omega (arith, signed_arith))

pub beyond_after : (t i : ℤ) (r : Reading) → i ≡ int_div_euclid t (pos 1_000_000_000) → r.second < seconds_in_range
    → beyond Ahead i 4_294_967_295 r ≡ true → IsAfter t r
beyond_after t i r is high past = elim (before-true i 4_294_967_295 (instant r) r.second past) [
  | inl less ↦ omega (arith, signed_arith)
  | inr same ↦ let more = same.1 in absurd (omega arith)
]

by_beyond : (t i : ℤ) (r : Reading) → i ≡ int_div_euclid t (pos 1_000_000_000) → r.second < seconds_in_range → IsBy t r → beyond Back i 4_294_967_295 r ≡ true
by_beyond t i r is high early = before-up_to (instant r) r.second i 4_294_967_295 (omega (arith, signed_arith)) (omega arith)

beyond_by : (t i : ℤ) (r : Reading) → i ≡ int_div_euclid t (pos 1_000_000_000) → beyond Back i 4_294_967_295 r ≡ true → IsBy t r
beyond_by t i r is past = elim (before-true (instant r) r.second i 4_294_967_295 past) [
  | inl less ↦ omega (arith, signed_arith)
  | inr same ↦ let equal = same.0 in omega (arith, signed_arith)
]

pub first_after : (s : Seconds) (z : TimeZone) (t i : ℤ) (best : Option Reading) → i ≡ int_div_euclid t (pos 1_000_000_000)
    → IsBest Ahead (IsBeyond Ahead s z i 4_294_967_295) best → IsFirstAfter s z t best
first_after s z t i best is found =
    best_of_more Ahead (IsBeyond Ahead s z i 4_294_967_295) (λ r. IsItem s z r × IsAfter t r) best found
    (λ r m. (item_of s z r m.0, beyond_after t i r is (match_in_range s r.second m.0.matching) m.1))
    (λ r m. inl (stands_of s z r m.0, after_beyond t i r is m.1))

pub first_past : (s : Seconds) (z : TimeZone) (item : Reading) (best : Option Reading) → IsBest Ahead (IsBeyond Ahead s z (instant item) item.second) best
    → IsFirstPast s z item best
first_past s z item best found =
    best_of_more Ahead (IsBeyond Ahead s z (instant item) item.second) (λ r. IsItem s z r × (is_earlier item r ≡ true)) best found
    (λ r m. (item_of s z r m.0, m.1))
    (λ r m. inl (stands_of s z r m.0, m.1))

pub last_by : (s : Seconds) (z : TimeZone) (t i : ℤ) (best : Option Reading) → i ≡ int_div_euclid t (pos 1_000_000_000)
    → IsBest Back (IsBeyond Back s z i 4_294_967_295) best → IsLastBy s z t best
last_by s z t i best is found =
    best_of_more Back (IsBeyond Back s z i 4_294_967_295) (λ r. IsItem s z r × IsBy t r) best found
    (λ r m. (item_of s z r m.0, beyond_by t i r is m.1))
    (λ r m. let there = stands_of s z r m.0 in inl (there, by_beyond t i r is (match_in_range s r.second there.matching) m.1))

pub last_before : (s : Seconds) (z : TimeZone) (item : Reading) (best : Option Reading) → IsBest Back (IsBeyond Back s z (instant item) item.second) best
    → IsLastBefore s z item best
last_before s z item best found =
    best_of_more Back (IsBeyond Back s z (instant item) item.second) (λ r. IsItem s z r × (is_earlier r item ≡ true)) best found
    (λ r m. (item_of s z r m.0, m.1))
    (λ r m. inl (stands_of s z r m.0, m.1))

-- an item is a reading of a civil second of the range that the set has
pub item_read : (s : Seconds) (z : TimeZone) (r : Reading) → IsItem s z r → IsRead z r × (is_match s r.second ≡ true)
item_read s z r item =
    let at = stands_of s z r item in
    (record { in_range = match_in_range s r.second at.matching; place = at.place; here = at.here }, at.matching)

pub read_item : (s : Seconds) (z : TimeZone) (r : Reading) → IsRead z r → is_match s r.second ≡ true → IsItem s z r
read_item s z r read match = item_of s z r (record { matching = match; place = read.place; here = read.here })
