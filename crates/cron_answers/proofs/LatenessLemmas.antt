-- The first fire that was missed.
use Rattle.std.proofs.Common.{◌≡◌, ℕ, ◌≤◌, ℤ, pos, ◌+ℤ◌, ◌≤ℤ◌, ◌<ℤ◌, int_lt, Bool, true, false, cond, Option, Some, None, inl, inr, refl, ap, ◌∙◌, arith}
use Rattle.std.specs.Prelude.{int_le}
use Rattle.std.proofs.lemmas.Int.{ints}
use Rattle.jiff_core.proofs.SignedLemmas.{signed_arith}
use Rattle.jiff_tz.specs.declared.timezone.TimeZone.{TimeZone}
use Rattle.cron_dues.specs.Due.{Due, clock_of, due_instant, instant}
use Rattle.cron_instants.specs.Order.{comes_before}
use Rattle.cron_instants.proofs.OrderLemmas.{before-false, before-true}
use Rattle.cron_dues.proofs.DueLemmas.{due_ascends, fire_due}
use Rattle.cron_dues.proofs.MemberLemmas as member
use Rattle.cron_dues.specs.FirstDues.{IsDue, IsFirstDueAfter}
use Rattle.cron_time.specs.Seconds.{Seconds, is_match, matching_seconds}
use Rattle.cron_dues.proofs.MemberLemmas.{sets-match}
use Rattle.cron_answers.specs.Lateness.{IsFirstAfter, IsFirstMissed, missed_at, missed_of, nanos}

lt_of : (a b : ℤ) → int_lt a b ≡ true → a <ℤ b
lt_of a b h = grind (arith, ints)

of_lt : (a b : ℤ) → a <ℤ b → int_lt a b ≡ true
of_lt a b h = grind (arith, ints)

-- of the due fires of a set none with a lesser nominal second has a later instant
no_later : (s : Seconds) (z : TimeZone) (d e : Due) → IsDue s z d → IsDue s z e → d.second ≤ e.second → instant d ≤ℤ instant e
no_later s z d e here there le =
    let one = member.own-of (matching_seconds s) (is_match s) (clock_of z) (sets-match s) d here in
    let other = member.own-of (matching_seconds s) (is_match s) (clock_of z) (sets-match s) e there in
    let first : instant d ≡ due_instant z d.second = ap instant one.own ∙ fire_due (clock_of z) d.second in
    let second : instant e ≡ due_instant z e.second = ap instant other.own ∙ fire_due (clock_of z) e.second in
    let ascends = due_ascends (clock_of z) d.second e.second (omega (arith, signed_arith)) in rw (first, second) ascends

-- what comes no later, also by civil second, isn't preceded
not_preceded : (i j : ℤ) (c d : ℕ) → j ≤ℤ i → d ≤ c → comes_before i c j d ≡ false
not_preceded i j c d le less = by_test (comes_before i c j d) refl
  where
    by_test : (t : Bool) → comes_before i c j d ≡ t → t ≡ false
    by_test false e = refl
    by_test true e =
        elim (before-true i c j d e) [
          | inl before ↦ absurd (omega (arith, signed_arith))
          | inr both ↦ absurd (let fewer = both.1 in omega arith)
        ]

-- and what isn't preceded comes no later
no_later_by : (i j : ℤ) (c d : ℕ) → comes_before i c j d ≡ false → j ≤ℤ i
no_later_by i j c d h =
    elim (before-false i c j d h) [
      | inl before ↦ omega (arith, signed_arith)
      | inr both ↦ let same = both.0 in omega (arith, signed_arith)
    ]

pub first_due_after : (s : Seconds) (z : TimeZone) (t : ℤ) (answer : Option Due) → IsFirstDueAfter s z t answer
    → IsFirstAfter (IsDue s z) instant (λ d. d.second) t answer
first_due_after s z t None h = λ d is after. h d (is, of_lt t (nanos (instant d)) after)
first_due_after s z t (Some d) h =
    let first : (e : Due) → IsDue s z e → t <ℤ nanos (instant e) → d.second ≤ e.second = λ e is after. h.1 e (is, of_lt t (nanos (instant e)) after) in (
      h.0.0,
      lt_of t (nanos (instant d)) h.0.1,
      λ e is after. not_preceded (instant e) (instant d) e.second d.second (no_later s z d e h.0.0 is (first e is after)) (first e is after),
    )

-- the first that comes after the last run is missed, or none is
by_grace : {A : Type 0} (IsFire : A → Type 0) (second : A → ℤ) (civil : A → ℕ) (last : ℤ) (grace : ℕ) (now : ℤ) (f : A) (over : Bool)
    → over ≡ int_le (nanos (second f +ℤ pos grace)) now → IsFirstAfter IsFire second civil last (Some f)
    → IsFirstMissed IsFire second civil last grace now (missed_at f (cond over (Some (second f +ℤ pos grace)) None))
by_grace IsFire second civil last grace now f true e h =
    let over : nanos (second f +ℤ pos grace) ≤ℤ now = grind (arith, ints) in
    (h.0, (h.1, over), λ g is missed. h.2 g is missed.0, refl)
by_grace IsFire second civil last grace now f false e h = λ g is missed.
    let first = no_later_by (second g) (second f) (civil g) (civil f) (h.2 g is missed.0) in
    let over = missed.1 in
    let not : now <ℤ nanos (second f +ℤ pos grace) = grind (arith, ints) in absurd (omega (arith, signed_arith))

pub first_missed : {A : Type 0} (IsFire : A → Type 0) (second : A → ℤ) (civil : A → ℕ) (last : ℤ) (grace : ℕ) (now : ℤ) (first : Option A)
    → IsFirstAfter IsFire second civil last first → IsFirstMissed IsFire second civil last grace now (missed_of second grace now first)
first_missed IsFire second civil last grace now None h = λ f is missed. h f is missed.0
first_missed IsFire second civil last grace now (Some f) h = by_grace IsFire second civil last grace now f (int_le (nanos (second f +ℤ pos grace)) now) refl h
