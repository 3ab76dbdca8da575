-- The due instant of a civil second is the first at which the clock shows it or a later one.
use Rattle.std.proofs.Common.{◌≡◌, unsigned_abs, negsuc, ℕ, zero, suc, ℤ, pos, ◌+ℤ◌, ◌-ℤ◌, ◌≤ℤ◌, ◌<ℤ◌, refl, arith}
use Rattle.std.proofs.lemmas.Int.{by_lt_z}
use Rattle.jiff_core.proofs.SignedLemmas.{signed_arith}
use Rattle.cron_clocks.proofs.Windows.{le_yes, le_no}
use Rattle.cron_dues.specs.Clock.Due.{Clock, IsDueAt, shows, due_instant, first_reaching, DueInstantsAreFirst, FiresAreDue}
use Rattle.cron_dues.specs.Reached.{IsUnreachedBefore, IsGreatestBy, IsReachedBy}

-- ---- a clock is nearer than 26 hours to UTC

pub clock_near : (clock : Clock) (n : ℤ) → ((n -ℤ pos 93_599) ≤ℤ shows clock n) × (shows clock n ≤ℤ (n +ℤ pos 93_599))
clock_near clock n =
    let near = (clock n).in_range in
    (omega (arith, signed_arith, near.0), omega (arith, signed_arith, near.1))

-- ---- the due instant

first_is : (clock : Clock) (c left : ℕ) (n : ℤ) → IsUnreachedBefore clock c n → pos c ≤ℤ shows clock (n +ℤ pos left) → IsDueAt clock c (first_reaching clock c left n)
unfolding first_reaching
first_is clock c zero n before there =
    let e : n +ℤ pos zero ≡ n = omega (arith, signed_arith) in
    record { reached = rw e at there; first = before }
first_is clock c (suc left) n before there =
    by_lt_z (shows clock n) (pos c)
    (λ less. rw (le_no (pos c) (shows clock n) less)
    (first_is clock c left (n +ℤ pos 1)
    (λ m lt. by_lt_z m n (before m) (λ ge. let e : m ≡ n = omega (arith, signed_arith) in rw e less))
    (let e : n +ℤ pos 1 +ℤ pos left ≡ n +ℤ pos (suc left) = omega (arith, signed_arith) in rw e there)))
    (λ more. rw (le_yes (pos c) (shows clock n) more) (record { reached = more; first = before }))

pub due_is : DueInstantsAreFirst
due_is clock c =
    first_is clock c 187_198 (pos c -ℤ pos 93_599)
    (λ m less. let near = clock_near clock m in omega (arith, signed_arith, near.1))
    (let near = clock_near clock (pos c -ℤ pos 93_599 +ℤ pos 187_198) in omega (arith, signed_arith, near.0))

pub due_once : (clock : Clock) (c : ℕ) (n m : ℤ) → IsDueAt clock c n → IsDueAt clock c m → n ≡ m
due_once clock c n m one other =
    by_lt_z n m
    (λ less. let early = other.first n less in let there = one.reached in absurd (omega (arith, signed_arith)))
    (λ ge. by_lt_z m n
    (λ less. let early = one.first m less in let there = other.reached in absurd (omega (arith, signed_arith)))
    (λ le. omega (arith, signed_arith)))

pub due_near : (clock : Clock) (c : ℕ) → ((pos c -ℤ pos 93_599) ≤ℤ due_instant clock c) × (due_instant clock c ≤ℤ (pos c +ℤ pos 93_599))
due_near clock c =
    let is = due_is clock c in
    let there = is.reached in
    let here = clock_near clock (due_instant clock c) in (
      omega (arith, signed_arith, here.1, there),
      by_lt_z (pos c +ℤ pos 93_599) (due_instant clock c)
          (λ less. let early = is.first (pos c +ℤ pos 93_599) less in let near = clock_near clock (pos c +ℤ pos 93_599) in absurd (omega (arith, signed_arith, near.0)))
          (λ le. le),
    )

-- a civil second is due by each instant at which the clock shows it or a later one
pub due_by : (clock : Clock) (c : ℕ) (n : ℤ) → pos c ≤ℤ shows clock n → due_instant clock c ≤ℤ n
due_by clock c n there =
    by_lt_z n (due_instant clock c)
    (λ less. let early = (due_is clock c).first n less in absurd (omega (arith, signed_arith)))
    (λ le. le)

-- later civil seconds are due no earlier
pub due_ascends : (clock : Clock) (c d : ℕ) → pos c ≤ℤ pos d → due_instant clock c ≤ℤ due_instant clock d
due_ascends clock c d le = let there = (due_is clock d).reached in due_by clock c (due_instant clock d) (omega (arith, signed_arith))

-- the civil seconds up to the greatest that was shown are due
pub reached_of : (clock : Clock) (n m : ℤ) → IsGreatestBy clock n m → IsReachedBy clock n m
reached_of clock n m greatest c range = (
  λ le. let at = greatest.shown in
      let shown = at.shown in
      let by = at.by in
      let due = due_by clock c at.at (omega (arith, signed_arith)) in omega (arith, signed_arith),
  λ by. let there = (due_is clock c).reached in
      let most = greatest.greatest (due_instant clock c) by in omega (arith, signed_arith),
)

pub none_reached : (clock : Clock) (n : ℤ) → n <ℤ (pos 0 -ℤ pos 93_600) → IsReachedBy clock n (pos 0 -ℤ pos 1)
none_reached clock n early c range = (
  λ le. absurd (omega (arith, signed_arith)),
  λ by. let near = due_near clock c in absurd (omega (arith, signed_arith, near.0)),
)

pub all_reached : (clock : Clock) (n : ℤ) → pos 4_134_074_400 <ℤ n → IsReachedBy clock n (pos 4_133_980_800)
all_reached clock n late c range = (
  λ le. let near = due_near clock c in omega (arith, signed_arith, near.1),
  λ by. omega (arith, signed_arith),
)

-- ---- the due fire

pub as_natural : (k : ℤ) → pos 0 ≤ℤ k → pos (unsigned_abs k) ≡ k
as_natural (pos n) h = refl
as_natural (negsuc n) h = absurd (omega (arith, signed_arith))

pub fire_due : FiresAreDue
fire_due clock c =
    let there = (due_is clock c).reached in
    let past = as_natural (shows clock (due_instant clock c) -ℤ pos c) (omega (arith, signed_arith)) in
    omega (arith, signed_arith)
