-- On the way to the due instant of a civil second.
use Rattle.std.proofs.Common.{◌≡◌, ℕ, ◌<◌, ◌≤◌, false, true, ℤ, pos, ◌+ℤ◌, ◌-ℤ◌, ◌≤ℤ◌, ◌<ℤ◌, unsigned_abs, refl, ap, ◌⊎◌, inl, inr, arith}
use Rattle.std.proofs.lemmas.Int.{by_lt_z}
use Rattle.jiff_core.proofs.SignedLemmas.{signed_arith}
use Rattle.cron_clocks.proofs.TableLemmas.{same_offset}
use Rattle.cron_seconds.proofs.IntLemmas.{int_le-true, int_le-false}
use Rattle.cron_dues.specs.Clock.Due.{Clock, IsDueAt, shows, due, due_instant, parts}
use Rattle.cron_dues.specs.Steady.{IsKept}
use Rattle.cron_dues.specs.Reached.{IsAhead, IsOnTheWay, IsUnreachedBefore, ends_before, left_until}
use Rattle.cron_dues.specs.declared.steady.Steady.{Steady}
use Rattle.cron_dues.proofs.DueLemmas.{as_natural, clock_near, due_is, due_once}

-- a clock is nearer to UTC than so many seconds
pub unreached_early : (clock : Clock) (c : ℕ) (start : ℤ) → start ≡ pos c -ℤ pos 93_599 → IsUnreachedBefore clock c start
unreached_early clock c start e = λ m less. let near = clock_near clock m in omega (arith, signed_arith, near.1)

pub shown_in : (clock : Clock) (n end o k : ℤ) → IsKept clock n end o → n ≤ℤ k → k <ℤ end → shows clock k ≡ k +ℤ o
shown_in clock n end o k kept low high = ap (λ (x : ℤ). k +ℤ x) (kept k low high)

-- where the clock comes to the end before it shows the civil second, that isn't reached before the end
pub unreached_on : (clock : Clock) (c : ℕ) (from : ℤ) (steady : Steady) → IsUnreachedBefore clock c from → IsKept clock from steady.end steady.offset.seconds
    → ends_before steady c ≡ true → IsUnreachedBefore clock c steady.end
unreached_on clock c from steady unreached kept ends =
    let early = int_le-true (steady.end +ℤ steady.offset.seconds) (pos c) ends in
    λ m less.
    by_lt_z m from (unreached m)
    (λ ge. let shown = shown_in clock from steady.end steady.offset.seconds m kept ge less in omega (arith, signed_arith))

-- that end is near the civil second, or before it
pub end_near : (c : ℕ) (steady : Steady) → ends_before steady c ≡ true → steady.end ≤ℤ (pos c +ℤ pos 93_599)
end_near c steady ends =
    let early = int_le-true (steady.end +ℤ steady.offset.seconds) (pos c) ends in
    let near = steady.offset.in_range in
    omega (arith, signed_arith, near.0)

-- the way goes on at the end
pub way_on : (clock : Clock) (c : ℕ) (from : ℤ) (steady next : Steady) → IsOnTheWay clock c from steady → ends_before steady c ≡ true
    → IsKept clock steady.end next.end next.offset.seconds → steady.end <ℤ next.end → IsOnTheWay clock c steady.end next
way_on clock c from steady next way ends kept later =
    let early = int_le-true (steady.end +ℤ steady.offset.seconds) (pos c) ends in
    let low = way.low in
    let before = way.later in
    let near = steady.offset.in_range in
    record {
      unreached = unreached_on clock c from steady way.unreached way.kept ends;
      low = omega (arith, signed_arith);
      high = omega (arith, signed_arith, near.0);
      kept = kept;
      later = later;
    }

-- it is on the way to a later civil second too
pub way_ahead : (clock : Clock) (c : ℕ) (from : ℤ) (steady : Steady) → IsOnTheWay clock c from steady → IsAhead clock c from steady
way_ahead clock c from steady way = record {
  unreached = way.unreached;
  high = way.high;
  kept = way.kept;
  later = way.later;
}

pub ahead_on : (clock : Clock) (c d : ℕ) (from : ℤ) (steady : Steady) → c ≤ d → IsAhead clock c from steady → IsAhead clock d from steady
ahead_on clock c d from steady le ahead =
    let high = ahead.high in
    record {
      unreached = λ m less. let before = ahead.unreached m less in omega (arith, signed_arith);
      high = omega (arith, signed_arith);
      kept = ahead.kept;
      later = ahead.later;
    }

pub way_less : (clock : Clock) (c : ℕ) (from end : ℤ) → from <ℤ end → end ≤ℤ (pos c +ℤ pos 93_599) → left_until c end < left_until c from
way_less clock c from end less high =
    let one = as_natural (pos c +ℤ pos 93_600 -ℤ from) (omega (arith, signed_arith)) in
    let other = as_natural (pos c +ℤ pos 93_600 -ℤ end) (omega (arith, signed_arith)) in
    omega (arith, signed_arith)

-- what a clock shows there is past the civil second at most by what two clocks can be apart
pub past_near : (clock : Clock) (c past : ℕ) (from : ℤ) (steady : Steady) → IsAhead clock c from steady
    → (pos past ≡ from +ℤ steady.offset.seconds -ℤ pos c) ⊎ (pos past ≡ pos 0) → past ≤ 187_198
past_near clock c past from steady way (inl e) =
    let high = way.high in
    let near = steady.offset.in_range in
    omega (arith, signed_arith, near.1)
past_near clock c past from steady way (inr e) = omega (arith, signed_arith)

-- ---- the end of the way

-- the instant at which the clock shows the civil second, or the one at which it is past it already
record IsEnd (c past : ℕ) (from : ℤ) (steady : Steady) : Type 0 where
  pub from_on : from ≤ℤ (pos c +ℤ pos past -ℤ steady.offset.seconds)
  pub before : (pos c +ℤ pos past -ℤ steady.offset.seconds) <ℤ steady.end
  pub first : (m : ℤ) → from ≤ℤ m → m <ℤ (pos c +ℤ pos past -ℤ steady.offset.seconds) → (m +ℤ steady.offset.seconds) <ℤ pos c

is_end : (c past : ℕ) (from : ℤ) (steady : Steady) → ends_before steady c ≡ false → from <ℤ steady.end
    → (from +ℤ steady.offset.seconds -ℤ pos c) ≤ℤ pos past → (pos past ≡ from +ℤ steady.offset.seconds -ℤ pos c) ⊎ (pos past ≡ pos 0) → IsEnd c past from steady
is_end c past from steady ends later most (inl e) = record {
  from_on = omega (arith, signed_arith);
  before = omega (arith, signed_arith);
  first = λ m ge less. omega (arith, signed_arith);
}
is_end c past from steady ends later most (inr e) =
    let more = int_le-false (steady.end +ℤ steady.offset.seconds) (pos c) ends in
    record {
      from_on = omega (arith, signed_arith);
      before = omega (arith, signed_arith);
      first = λ m ge less. omega (arith, signed_arith);
    }

due_there : (clock : Clock) (c past : ℕ) (from : ℤ) (steady : Steady) → IsAhead clock c from steady → IsEnd c past from steady
    → IsDueAt clock c (pos c +ℤ pos past -ℤ steady.offset.seconds)
due_there clock c past from steady way end =
    let shown = shown_in clock from steady.end steady.offset.seconds (pos c +ℤ pos past -ℤ steady.offset.seconds) way.kept end.from_on end.before in
    record {
      reached = omega (arith, signed_arith);
      first = λ m less.
          by_lt_z m from (way.unreached m)
          (λ ge. let early = end.first m ge less in
          let before = end.before in
          let there = shown_in clock from steady.end steady.offset.seconds m way.kept ge (omega (arith, signed_arith)) in omega (arith, signed_arith));
    }

pub back : (c past : ℕ) (shown : ℤ) → shown ≡ pos c +ℤ pos past → unsigned_abs (shown -ℤ pos c) ≡ past
back c past shown e =
    let nat = as_natural (shown -ℤ pos c) (omega (arith, signed_arith)) in
    omega (arith, signed_arith)

pub fire_is : (clock : Clock) (c past : ℕ) (from : ℤ) (steady : Steady) → IsAhead clock c from steady → ends_before steady c ≡ false
    → (from +ℤ steady.offset.seconds -ℤ pos c) ≤ℤ pos past → (pos past ≡ from +ℤ steady.offset.seconds -ℤ pos c) ⊎ (pos past ≡ pos 0)
    → parts c past steady.offset ≡ due clock c
fire_is clock c past from steady way ends most either =
    let n : ℤ = pos c +ℤ pos past -ℤ steady.offset.seconds in
    let end = is_end c past from steady ends way.later most either in
    let there = due_there clock c past from steady way end in
    let same : due_instant clock c ≡ n = due_once clock c (due_instant clock c) n (due_is clock c) there in
    let offset : (clock n).seconds ≡ steady.offset.seconds = way.kept n end.from_on end.before in
    let past_is : unsigned_abs (shows clock n -ℤ pos c) ≡ past = back c past (shows clock n) (omega (arith, signed_arith)) in
    rw (same, past_is, same_offset (clock n) steady.offset offset) refl
