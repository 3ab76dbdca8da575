-- The items of a timeline in the order of their instants: each once, in that order; and what is left of them by the first and the last one.
use Rattle.std.proofs.Common.{◌≡◌, ℕ, ◌<◌, ℤ, pos, ◌*ℤ◌, ◌≤ℤ◌, Bool, true, false, List, [], ◌∷◌, Option, Some, None, inl, inr, ap, ◌∙◌, arith}
use Rattle.std.specs.Prelude.{filter, reverse, slice_get, MatchOption}
use Rattle.jiff_core.proofs.SignedLemmas.{signed_arith}
use Rattle.jiff_tz.specs.declared.timezone.TimeZone.{TimeZone}
use Rattle.cron_clocks.proofs.Windows.{le_yes, lt_yes}
use Rattle.cron_time.specs.Seconds.{Seconds, timeline}
use Rattle.cron_moments.specs.Readings.{Reading, instant}
use Rattle.cron_time.proofs.TimelineLaws.{stands_once}
use Rattle.cron_seconds.specs.Rules.{AreInOrder, IsAmong, IsFirstOf}
use Rattle.cron_seconds.proofs.IntLemmas.{int_le-true, int_lt-true}
use Rattle.cron_seconds.proofs.OrderLemmas as order
use Rattle.cron_instants.specs.Fires.{fires, fires_after, fires_back, fires_before, fires_past, is_after, is_by}
use Rattle.cron_instants.specs.Instants.{Ascends, IsEarliest, IsFirstAfter, IsFirstPast, IsItem, IsLastBefore, IsLastBy, IsLatest}
use Rattle.cron_instants.specs.Order.{is_earlier}
use Rattle.cron_instants.proofs.AscentLemmas.{ascends-earliest_first, among-earliest_first, earliest_first-among, earlier-order, earlier-through, once-of}
use Rattle.cron_instants.proofs.OrderLemmas.{before-true}

-- ---- the fires are the items, each once, and ascend

pub fires-ascend : (s : Seconds) (z : TimeZone) → Ascends (fires s z)
fires-ascend s z = ascends-earliest_first (timeline s z) (once-of (timeline s z) (stands_once s z))

pub fires-ascend_at : (s : Seconds) (z : TimeZone) (i j : ℕ) (x y : Reading) → i < j → slice_get (fires s z) i ≡ Some x → slice_get (fires s z) j ≡ Some y
    → is_earlier x y ≡ true
fires-ascend_at s z i j x y lt e f = order.rises-at is_earlier earlier-order (fires s z) i j x y (fires-ascend s z) lt e f

pub item-of_fires : (s : Seconds) (z : TimeZone) (r : Reading) → IsAmong (fires s z) r → IsItem s z r
item-of_fires s z r h = among-earliest_first (timeline s z) r h

pub fires-of_item : (s : Seconds) (z : TimeZone) (r : Reading) → IsItem s z r → IsAmong (fires s z) r
fires-of_item s z r h = earliest_first-among (timeline s z) r h

pub not_later : (a b : Reading) → is_earlier a b ≡ true → instant a ≤ℤ instant b
not_later a b h = elim (before-true (instant a) a.second (instant b) b.second h) [
  | inl less ↦ omega (arith, signed_arith)
  | inr same ↦ let equal = same.0 in omega (arith, signed_arith)
]

pub fires-in_order : (s : Seconds) (z : TimeZone) → AreInOrder instant is_earlier (fires s z)
fires-in_order s z = record { rise = fires-ascend s z; keep_up = λ a b one other h. not_later a b h }

-- ---- tests that readings pass from one on

-- what passes the test passes it from there on
abbrev pub KeepsOn : (Reading → Bool) → Type 0
KeepsOn p = (a b : Reading) → p a ≡ true → is_earlier a b ≡ true → p b ≡ true

pub after-keeps_on : (t : ℤ) → KeepsOn (is_after t)
after-keeps_on t a b h earlier =
    let less = int_lt-true t (instant a *ℤ pos 1_000_000_000) h in
    let le = not_later a b earlier in
    lt_yes t (instant b *ℤ pos 1_000_000_000) (omega (arith, signed_arith))

pub past-keeps_on : (item : Reading) → KeepsOn (is_earlier item)
past-keeps_on item a b h earlier = earlier-through item a b h earlier

-- ---- what is left, by its first

-- the earliest of the items that pass a test is the first of the fires that do
pub first-of_fires : (s : Seconds) (z : TimeZone) (p : Reading → Bool) (answer : Option Reading) → KeepsOn p
    → IsEarliest (λ r. IsItem s z r × (p r ≡ true)) answer → IsFirstOf (filter p (fires s z)) (fires_past s z) answer
first-of_fires s z p answer on found =
    order.first-left is_earlier earlier-order p (fires s z) answer (λ a b one other h k. on a b h k) (fires-ascend s z) (of_fires answer found)
  where
    of_fires : (o : Option Reading) → IsEarliest (λ r. IsItem s z r × (p r ≡ true)) o → IsEarliest (λ r. IsAmong (fires s z) r × (p r ≡ true)) o
    of_fires None none = λ r m. none r (item-of_fires s z r m.0, m.1)
    of_fires (Some r) first = ((fires-of_item s z r first.0.0, first.0.1), λ q m. first.1 q (item-of_fires s z q m.0, m.1))

pub first-past : (s : Seconds) (z : TimeZone) (item : Reading) (answer : Option Reading) → IsFirstPast s z item answer
    → IsFirstOf (fires_past s z item) (fires_past s z) answer
first-past s z item answer first = first-of_fires s z (is_earlier item) answer (past-keeps_on item) first

after_of : (s : Seconds) (z : TimeZone) (t : ℤ) (answer : Option Reading) → IsFirstAfter s z t answer
    → IsEarliest (λ r. IsItem s z r × (is_after t r ≡ true)) answer
after_of s z t None none = λ r m. none r (m.0, int_lt-true t (instant r *ℤ pos 1_000_000_000) m.1)
after_of s z t (Some r) found = (
  (found.0.0, lt_yes t (instant r *ℤ pos 1_000_000_000) found.0.1),
  λ q m. found.1 q (m.0, int_lt-true t (instant q *ℤ pos 1_000_000_000) m.1),
)

pub first-after : (s : Seconds) (z : TimeZone) (t : ℤ) (answer : Option Reading) → IsFirstAfter s z t answer
    → IsFirstOf (fires_after s z t) (fires_past s z) answer
first-after s z t answer first = first-of_fires s z (is_after t) answer (after-keeps_on t) (after_of s z t answer first)

-- ---- and backwards, by its last

last-of_fires : (s : Seconds) (z : TimeZone) (p : Reading → Bool) (answer : Option Reading)
    → ((a b : Reading) → p b ≡ true → is_earlier a b ≡ true → p a ≡ true)
    → IsLatest (λ r. IsItem s z r × (p r ≡ true)) answer → IsFirstOf (reverse (filter p (fires s z))) (fires_before s z) answer
last-of_fires s z p answer back found =
    order.last-left is_earlier earlier-order p (fires s z) answer (λ a b one other h k. back a b h k) (fires-ascend s z) (of_fires answer found)
  where
    of_fires : (o : Option Reading) → IsLatest (λ r. IsItem s z r × (p r ≡ true)) o → IsLatest (λ r. IsAmong (fires s z) r × (p r ≡ true)) o
    of_fires None none = λ r m. none r (item-of_fires s z r m.0, m.1)
    of_fires (Some r) last = ((fires-of_item s z r last.0.0, last.0.1), λ q m. last.1 q (item-of_fires s z q m.0, m.1))

pub last-before : (s : Seconds) (z : TimeZone) (item : Reading) (answer : Option Reading) → IsLastBefore s z item answer
    → IsFirstOf (fires_before s z item) (fires_before s z) answer
last-before s z item answer last = last-of_fires s z (λ r. is_earlier r item) answer (λ a b h earlier. earlier-through a b item earlier h) last

by_of : (s : Seconds) (z : TimeZone) (t : ℤ) (answer : Option Reading) → IsLastBy s z t answer → IsLatest (λ r. IsItem s z r × (is_by t r ≡ true)) answer
by_of s z t None none = λ r m. none r (m.0, int_le-true (instant r *ℤ pos 1_000_000_000) t m.1)
by_of s z t (Some r) found = (
  (found.0.0, le_yes (instant r *ℤ pos 1_000_000_000) t found.0.1),
  λ q m. found.1 q (m.0, int_le-true (instant q *ℤ pos 1_000_000_000) t m.1),
)

by-keeps_back : (t : ℤ) (a b : Reading) → is_by t b ≡ true → is_earlier a b ≡ true → is_by t a ≡ true
by-keeps_back t a b h earlier =
    let by = int_le-true (instant b *ℤ pos 1_000_000_000) t h in
    let le = not_later a b earlier in
    le_yes (instant a *ℤ pos 1_000_000_000) t (omega (arith, signed_arith))

pub last-by : (s : Seconds) (z : TimeZone) (t : ℤ) (answer : Option Reading) → IsLastBy s z t answer
    → IsFirstOf (fires_back s z t) (fires_before s z) answer
last-by s z t answer last = last-of_fires s z (is_by t) answer (by-keeps_back t) (by_of s z t answer last)
