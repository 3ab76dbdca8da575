-- The seconds of a year among which a rule's transition is in every year.
use Rattle.std.proofs.Common.{◌≡◌, ℕ, ◌<◌, ℤ, pos, ◌+ℤ◌, ◌-ℤ◌, ◌*ℤ◌, ◌≤ℤ◌, refl, arith}
use Rattle.jiff_core.specs.Calendar.{IsWithin}
use Rattle.jiff_core.specs.Timestamp.{IsOffsetSeconds, nanos_of_seconds}
use Rattle.jiff_core.proofs.CalendarLemmas.{days_in_year_bounds}
use Rattle.jiff_core.proofs.SignedLemmas.{signed_arith}
use Rattle.jiff_tz.specs.declared.posix.DayTime.{DayTime}
use Rattle.jiff_tz.specs.PosixRule.{rule_nanos, clamp_to, first_nanosecond, last_nanosecond, nanos_per_day}
use Rattle.cron_clocks.specs.Transitions.{IsAmong, IsAlwaysAmong, IsInside, TransitionsWithin, AlwaysTransitionsWithin, AlwaysInOrder, week, common_year}
use Rattle.cron_clocks.proofs.Windows.{lt_no}

pub clamp_inside : (low high n : ℤ) → low ≤ℤ n → n ≤ℤ high → clamp_to low high n ≡ n
clamp_inside low high n above below = rw (lt_no n low above, lt_no high n below) refl

-- a moment of the year away from its edges, at any offset, stays where it is
transition_nanos : (y : ℤ) (transition : DayTime) (s : ℤ) (first last : ℕ)
    → IsInside (pos first *ℤ pos 86_400 +ℤ transition.time) (pos last *ℤ pos 86_400 +ℤ transition.time) → IsOffsetSeconds s
    → (among : IsAmong first last transition.date y) → rule_nanos y transition s ≡ nanos_of_seconds (among.number *ℤ pos 86_400 +ℤ transition.time -ℤ s)
unfolding rule_nanos
transition_nanos y transition s first last inside small among =
    let days = days_in_year_bounds y in
    let low = among.low in
    let high = among.high in
    let moment : ℤ = among.number *ℤ nanos_per_day +ℤ nanos_of_seconds (transition.time -ℤ s) in
    let stays = clamp_inside (first_nanosecond y) (last_nanosecond y) moment (omega (arith, signed_arith)) (omega (arith, signed_arith)) in
    rw (among.named, stays) (omega (arith, signed_arith))

pub transitions_within : (y : ℤ) (transition : DayTime) (first last : ℕ) → IsAmong first last transition.date y
    → IsInside (pos first *ℤ pos 86_400 +ℤ transition.time) (pos last *ℤ pos 86_400 +ℤ transition.time)
    → TransitionsWithin (pos first *ℤ pos 86_400 +ℤ transition.time) (pos last *ℤ pos 86_400 +ℤ transition.time) transition y
transitions_within y transition first last among inside =
    let low = among.low in
    let high = among.high in
    record {
      second = among.number *ℤ pos 86_400 +ℤ transition.time;
      transitions = λ s small. transition_nanos y transition s first last inside small among;
      low = omega (arith, signed_arith);
      high = omega (arith, signed_arith);
    }

-- a transition away from the edges is on a day that every year has
pub days_short : (last : ℕ) (time : ℤ) → IsWithin 604_799 time → (pos last *ℤ pos 86_400 +ℤ time +ℤ pos 604_800) ≤ℤ pos 31_536_000 → last < 365
days_short last time within high = omega (arith, signed_arith)

pub always_within : (transition : DayTime) (first last : ℕ) (a b : ℤ) → a ≡ pos first *ℤ pos 86_400 +ℤ transition.time → b ≡ pos last *ℤ pos 86_400 +ℤ transition.time
    → (last < 365 → IsAlwaysAmong first last transition.date) → IsInside a b → AlwaysTransitionsWithin a b transition
always_within transition first last a b e f among inside y year =
    let edges : IsInside (pos first *ℤ pos 86_400 +ℤ transition.time) (pos last *ℤ pos 86_400 +ℤ transition.time) = rw (← e, ← f) inside in
    rw (e, f) (transitions_within y transition first last (among (days_short last transition.time transition.time_in edges.1) y year) edges)

-- the two transitions of a rule, from the seconds among which they lie
pub in_order : (earlier later : DayTime) (a b e f : ℤ) → AlwaysTransitionsWithin a b earlier → AlwaysTransitionsWithin e f later
    → week ≤ℤ a → (b +ℤ week) ≤ℤ e → (f +ℤ week) ≤ℤ common_year → AlwaysInOrder earlier later
in_order earlier later a b e f one other low apart high y year =
    let first = one y year in
    let second = other y year in
    let first_low = first.low in
    let first_high = first.high in
    let second_low = second.low in
    let second_high = second.high in
    record {
      first = first.second;
      second = second.second;
      first_transitions = first.transitions;
      second_transitions = second.transitions;
      low = omega (arith, signed_arith);
      apart = omega (arith, signed_arith);
      high = omega (arith, signed_arith);
    }
