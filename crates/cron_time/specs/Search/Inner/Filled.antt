-- The sets of an expression have a member of each unit, and so a number of several units together.
use Rattle.std.specs.Prelude.{◌≡◌, ℕ, zero, suc, ◌+◌, ◌-◌, ◌*◌, ◌/◌, ◌%◌, ◌<◌, ◌≤◌, Bool, true, false, ◌&&◌, cond, List, [], ◌∷◌, filter, nat_eq}
use Rattle.std.specs.List.{range_with_len}
use Rattle.std.proofs.Common.{arith, refl, sym, subst, inl, inr, eqb-true}
use Rattle.std.proofs.lemmas.Bool.{and_from, or_cases, or_left, eq-eqb}
use Rattle.cron_units.specs.Sets.{Sets, IsFilled, AreSets}
use Rattle.cron_units.specs.Units.{TimeUnit, whole, contains, years}
use Rattle.cron_time.specs.Search.Inner.Numbers.{matches_month, matches_rest, matches_second}
use Rattle.cron_moments.specs.Calendar.{months_end}

-- a number that passes a filter of the n numbers from a on is one of these
pub within : (p : ℕ → Bool) (a n x : ℕ) → contains (filter p (range_with_len a n)) x ≡ true → (a ≤ x) × (x < a + n)
within p a zero x h = cc
within p a (suc n) x h =
    elim (p a) as (λ b. contains (cond b (a ∷ filter p (range_with_len (a + 1) n)) (filter p (range_with_len (a + 1) n))) x ≡ true
    → (a ≤ x) × (x < a + suc n)) [
      | true ↦ λ k. elim (or_cases (nat_eq x a) (contains (filter p (range_with_len (a + 1) n)) x) k) [
        | inl e ↦ let same = eqb-true x a e in (omega arith, omega arith)
        | inr more ↦ let rest = within p (a + 1) n x more in (omega (arith, rest.0), omega (arith, rest.1))
      ]
      | false ↦ λ k. let rest = within p (a + 1) n x k in (omega (arith, rest.0), omega (arith, rest.1))
    ] h

-- a member of a set lies within its unit
pub member_within : (u : TimeUnit) (xs : List ℕ) (x : ℕ) → IsFilled u xs → u.least ≤ u.greatest → contains xs x ≡ true → (u.least ≤ x) × (x ≤ u.greatest)
unfolding whole
member_within u xs x f ordered h =
    let P : List ℕ → Type 0 = λ ys. contains ys x ≡ true in
    let both = within (contains xs) u.least (u.greatest + 1 - u.least) x (subst P f.is_set h) in
    (both.0, omega (arith, both.1))

-- a number of a unit, below a limit, that is a member
pub record Member (xs : List ℕ) (least limit : ℕ) : Type 0 where
  pub number : ℕ
  pub low : least ≤ number
  pub high : number < limit
  pub is_member : contains xs number ≡ true

first_member : (xs : List ℕ) → (xs ≡ [] → ⊥) → (x : ℕ) × (contains xs x ≡ true)
first_member [] h = absurd (h refl)
first_member (x ∷ xs) h = (x, or_left (nat_eq x x) (contains xs x) (eq-eqb x x refl))

pub member_of : (u : TimeUnit) (xs : List ℕ) → u.least ≤ u.greatest → IsFilled u xs → Member xs u.least (u.greatest + 1)
member_of u xs ordered f =
    let first = first_member xs f.nonempty in
    let both = member_within u xs first.0 f ordered first.1 in
    record { number = first.0; low = both.0; high = omega (arith, both.1); is_member = first.1 }

-- a number below a limit that passes a test
abbrev pub HasOne : ℕ → (ℕ → Bool) → Type 0
HasOne limit test = (n : ℕ) × (n < limit) × (test n ≡ true)

pub seconds_filled : (s : Sets) → AreSets s → HasOne 60 (contains s.seconds)
seconds_filled s a = let m = member_of _ s.seconds (omega arith) a.seconds in (m.number, m.high, m.is_member)

pub minutes_filled : (s : Sets) → AreSets s → HasOne 60 (contains s.minutes)
minutes_filled s a = let m = member_of _ s.minutes (omega arith) a.minutes in (m.number, m.high, m.is_member)

pub hours_filled : (s : Sets) → AreSets s → HasOne 24 (contains s.hours)
hours_filled s a = let m = member_of _ s.hours (omega arith) a.hours in (m.number, m.high, m.is_member)

pub years_filled : (s : Sets) → AreSets s → HasOne (years.greatest + 1) (contains s.years)
years_filled s a = let m = member_of _ s.years (omega arith) a.years in (m.number, m.high, m.is_member)

pub months_filled : (s : Sets) → AreSets s → HasOne 12 (λ n. contains s.months (n + 1))
months_filled s a =
    let m = member_of _ s.months (omega arith) a.months in
    let e : m.number - 1 + 1 ≡ m.number = omega (arith, m.low) in
    let P : ℕ → Type 0 = λ n. contains s.months n ≡ true in
    (m.number - 1, omega (arith, m.low, m.high), subst P (sym e) m.is_member)

-- a number whose two parts pass their tests passes both together
both_filled : (w : ℕ) (outer inner : ℕ → Bool) (m r : ℕ) → (m * w + r) / w ≡ m → (m * w + r) % w ≡ r → outer m ≡ true → inner r ≡ true
    → (outer ((m * w + r) / w) && inner ((m * w + r) % w)) ≡ true
both_filled w outer inner m r e f o i = rw (e, f) (and_from (outer m) (inner r) o i)

pub rest_filled : (s : Sets) → AreSets s → HasOne 3600 (matches_rest s)
rest_filled s a =
    let m = minutes_filled s a in
    let r = seconds_filled s a in (
      m.0 * 60 + r.0,
      omega (arith, m.1, r.1),
      both_filled 60 (contains s.minutes) (contains s.seconds) m.0 r.0 (omega (arith, r.1)) (omega (arith, r.1))
          m.2 r.2,
    )

pub times_filled : (s : Sets) → AreSets s → HasOne 86_400 (matches_second s)
times_filled s a =
    let m = hours_filled s a in
    let r = rest_filled s a in
    (m.0 * 3600 + r.0, omega (arith, m.1, r.1), both_filled 3600 (contains s.hours) (matches_rest s) m.0 r.0 (omega (arith, r.1)) (omega (arith, r.1)) m.2 r.2)

pub all_months_filled : (s : Sets) → AreSets s → HasOne months_end (matches_month s)
all_months_filled s a =
    let m = years_filled s a in
    let r = months_filled s a in (
      m.0 * 12 + r.0,
      omega (arith, m.1, r.1),
      both_filled 12 (contains s.years) (λ n. contains s.months (n + 1)) m.0 r.0 (omega (arith, r.1))
          (omega (arith, r.1)) m.2 r.2,
    )
