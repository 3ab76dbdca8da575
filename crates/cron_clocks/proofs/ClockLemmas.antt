-- What a clock of a rule shows in a second of UTC, from the transitions of its year.
use Rattle.std.proofs.Common.{◌≡◌, ℕ, inl, inr, cond, ℤ, pos, ◌+ℤ◌, ◌-ℤ◌, ◌*ℤ◌, ◌≤ℤ◌, ◌<ℤ◌, int_le, int_lt, to_z, of_z, w32, w64, FitsSigned, Option, Some, None, refl, sym, ap, ◌∙◌, arith}
use Rattle.std.proofs.lemmas.Int.{by_lt_z}
use Rattle.std.specs.Int.{int_div_euclid}
use Rattle.std.proofs.lemmas.Int.{ints}
use Rattle.jiff_core.specs.Calendar.{IsWithin}
use Rattle.jiff_core.specs.Timestamp.{IsOffsetSeconds, nanos_of_seconds}
use Rattle.jiff_core.proofs.SignedLemmas.{signed_arith}
use Rattle.jiff_tz.specs.declared.posix.DayTime.{DayTime}
use Rattle.jiff_tz.specs.declared.posix.Dst.{Dst}
use Rattle.jiff_tz.specs.declared.posix.TimeZone.{TimeZone}
use Rattle.jiff_tz.specs.declared.timezone.TimeZone.TheVariants.{Posix}
use Rattle.jiff_tz.specs.PosixRule.{clamp_to, first_nanosecond, in_window, last_nanosecond, match_some, nanos_per_day, rule_day, rule_nanos}
use Rattle.jiff_tz.specs.Year.{year_of_day, year_of_nanos}
use Rattle.jiff_tz.specs.Zone.{offset_at}
use Rattle.cron_clocks.specs.Clocks.{IsKeptUpTo, IsShown}
use Rattle.cron_clocks.specs.Spans.{AreTransitions, IsAtSecond, IsFarInside, IsTransition, IsUnparted, year_end}
use Rattle.cron_clocks.specs.Transitions.{TransitionsAt, year_start}
use Rattle.cron_clocks.proofs.RuleSeasons.{shows_by}
use Rattle.cron_clocks.proofs.SpanLemmas.{fits_back}
use Rattle.cron_clocks.proofs.RuleTransitions.{clamp_inside}
use Rattle.cron_clocks.proofs.RuleYears.{first_day-next, year_of_nanos-is}
use Rattle.cron_clocks.proofs.Windows.{le_yes, le_no, lt_yes, lt_no}

-- ---- a part of a second tells nothing

abbrev second_of : ℤ → ℤ
second_of t = int_div_euclid t (pos 1_000_000_000)

days_of : (t : ℤ) → int_div_euclid t (pos 86_400_000_000_000) ≡ int_div_euclid (nanos_of_seconds (second_of t)) (pos 86_400_000_000_000)
days_of t = omega (arith, signed_arith)

le_at : (a t : ℤ) → int_le (nanos_of_seconds a) t ≡ int_le a (second_of t)
le_at a t =
    by_lt_z (second_of t) a
    (λ less. le_no (nanos_of_seconds a) t (omega (arith, signed_arith)) ∙ sym (le_no a (second_of t) less))
    (λ more. le_yes (nanos_of_seconds a) t (omega (arith, signed_arith)) ∙ sym (le_yes a (second_of t) more))

lt_at : (a t : ℤ) → int_lt t (nanos_of_seconds a) ≡ int_lt (second_of t) a
lt_at a t =
    by_lt_z (second_of t) a
    (λ less. lt_yes t (nanos_of_seconds a) (omega (arith, signed_arith)) ∙ sym (lt_yes (second_of t) a less))
    (λ more. lt_no t (nanos_of_seconds a) (omega (arith, signed_arith)) ∙ sym (lt_no (second_of t) a more))

same_le : (a b : ℤ) → int_le (nanos_of_seconds a) (nanos_of_seconds b) ≡ int_le a b
same_le a b =
    by_lt_z b a
    (λ less. le_no (nanos_of_seconds a) (nanos_of_seconds b) (omega (arith, signed_arith)) ∙ sym (le_no a b less))
    (λ more. le_yes (nanos_of_seconds a) (nanos_of_seconds b) (omega (arith, signed_arith)) ∙ sym (le_yes a b more))

window_at : (a b t : ℤ) → in_window (nanos_of_seconds a, nanos_of_seconds b) t ≡ in_window (a, b) (second_of t)
window_at a b t = rw (same_le a b, le_at a t, lt_at b t, le_at b t, lt_at a t) refl

-- ---- a transition away from the edges of its year is where it is at each offset

at_second : (last moment second : ℤ) → IsAtSecond last moment second → (second +ℤ pos 93_600) ≤ℤ last → moment ≡ nanos_of_seconds second
at_second last moment second (inl there) far = there.0
at_second last moment second (inr before) far = let e = before.1 in absurd (omega (arith, signed_arith))

unclamped : (low high n k : ℤ) → clamp_to low high n ≡ k → low <ℤ k → k <ℤ high → n ≡ k
unclamped low high n k e above below =
    by_lt_z n low
    (λ less. let kept : clamp_to low high n ≡ low = rw (lt_yes n low less) refl in absurd (omega (arith, signed_arith)))
    (λ more. by_lt_z high n
    (λ over. let kept : clamp_to low high n ≡ high = rw (lt_no n low more, lt_yes high n over) refl in absurd (omega (arith, signed_arith)))
    (λ under. sym (clamp_inside low high n more under) ∙ e))

transitions_by : (y : ℤ) (transition : DayTime) (r : ℤ) (o : Option ℤ) → rule_day y transition.date ≡ o → rule_nanos y transition (pos 0) ≡ nanos_of_seconds r
    → IsFarInside (year_start y) (year_end y) r → TransitionsAt transition y r
unfolding rule_nanos
transitions_by y transition r None none is far s small =
    let last : last_nanosecond y ≡ nanos_of_seconds r =
    sym (ap (λ (o : Option ℤ). match_some o (last_nanosecond y) (λ (k : ℤ). clamp_to (first_nanosecond y) (last_nanosecond y)
    (k *ℤ nanos_per_day +ℤ nanos_of_seconds (transition.time -ℤ pos 0)))) none) ∙ is in
    absurd (omega (arith, signed_arith, far.1))
transitions_by y transition r (Some day) some is far s small =
    let clamped : clamp_to (first_nanosecond y) (last_nanosecond y) (day *ℤ nanos_per_day +ℤ nanos_of_seconds (transition.time -ℤ pos 0)) ≡ nanos_of_seconds r =
    sym (ap (λ (o : Option ℤ). match_some o (last_nanosecond y) (λ (k : ℤ). clamp_to (first_nanosecond y) (last_nanosecond y)
    (k *ℤ nanos_per_day +ℤ nanos_of_seconds (transition.time -ℤ pos 0)))) some) ∙ is in
    let low = far.0 in
    let high = far.1 in
    let whole : day *ℤ nanos_per_day +ℤ nanos_of_seconds (transition.time -ℤ pos 0) ≡ nanos_of_seconds r =
    unclamped (first_nanosecond y) (last_nanosecond y) _ (nanos_of_seconds r) clamped (omega (arith, signed_arith, low)) (omega (arith, signed_arith, high)) in
    let moved : day *ℤ nanos_per_day +ℤ nanos_of_seconds (transition.time -ℤ s) ≡ nanos_of_seconds (r -ℤ s) = omega (arith, signed_arith, whole) in
    rw (some, moved)
    (clamp_inside (first_nanosecond y) (last_nanosecond y) (nanos_of_seconds (r -ℤ s)) (omega (arith, signed_arith, low, small))
    (omega (arith, signed_arith, high, small)))

transitions_at : (y : ℤ) (transition : DayTime) (r : ℤ) → IsTransition transition y r → IsFarInside (year_start y) (year_end y) r → TransitionsAt transition y r
transitions_at y transition r is far = transitions_by y transition r (rule_day y transition.date) refl (at_second _ _ _ is.value far.1) far

-- ---- what is shown

pub shown_among : (rule : TimeZone) (d : Dst) (first last start end n : ℤ) → rule.dst ≡ Some d → AreTransitions d first last start end
    → IsFarInside first last start → IsFarInside first last end → first ≤ℤ n → n <ℤ last
    → (t : ℤ) → int_div_euclid t (pos 1_000_000_000) ≡ n
    → offset_at (Posix rule) t ≡ cond (in_window (start -ℤ rule.std_offset.seconds, end -ℤ d.offset.seconds) n) d.offset.seconds rule.std_offset.seconds
shown_among rule d first last start end n some transitions start_far end_far low high t e =
    let y = transitions.number in
    let next = first_day-next y (y +ℤ pos 1) transitions.year refl in
    let to = transitions.to in
    let year : year_of_nanos t ≡ y = ap year_of_day (days_of t) ∙ ap (λ k. year_of_nanos (nanos_of_seconds k)) e
    ∙ year_of_nanos-is y (y +ℤ pos 1) n transitions.year refl (rw (← transitions.from) low) (omega (arith, signed_arith)) in
    let starts = transitions_at y d.rule.start start transitions.starts (rw (← transitions.from, ← transitions.to) start_far) in
    let ends = transitions_at y d.rule.end end transitions.ends (rw (← transitions.from, ← transitions.to) end_far) in
    shows_by rule d some y start end t starts ends (rw (← transitions.from) start_far.0) year
    ∙ ap (λ w. cond w d.offset.seconds rule.std_offset.seconds)
    (window_at (start -ℤ rule.std_offset.seconds) (end -ℤ d.offset.seconds) t
    ∙ ap (λ k. in_window (start -ℤ rule.std_offset.seconds, end -ℤ d.offset.seconds) k) e)

-- ---- and up to where

beside : (transition first end n k : ℤ) → IsUnparted first end transition → first ≤ℤ n → n <ℤ end → first ≤ℤ k → k <ℤ end
    → (int_le transition k ≡ int_le transition n) × (int_lt k transition ≡ int_lt n transition)
beside transition first end n k (inl before) n_low n_high k_low k_high =
    let past : transition ≤ℤ k = omega (arith, signed_arith) in
    let n_past : transition ≤ℤ n = omega (arith, signed_arith) in
    (le_yes _ _ past ∙ sym (le_yes _ _ n_past), lt_no _ _ past ∙ sym (lt_no _ _ n_past))
beside transition first end n k (inr late) n_low n_high k_low k_high =
    let short : k <ℤ transition = omega (arith, signed_arith) in
    let n_short : n <ℤ transition = omega (arith, signed_arith) in
    (le_no _ _ short ∙ sym (le_no _ _ n_short), lt_yes _ _ short ∙ sym (lt_yes _ _ n_short))

in_window_alike : (start end first last n k : ℤ) → IsUnparted first last start → IsUnparted first last end → first ≤ℤ n → n <ℤ last
    → first ≤ℤ k → k <ℤ last → in_window (start, end) k ≡ in_window (start, end) n
in_window_alike start end first last n k one other n_low n_high k_low k_high =
    let a = beside start first last n k one n_low n_high k_low k_high in
    let b = beside end first last n k other n_low n_high k_low k_high in
    rw (a.0, a.1, b.0, b.1) refl

-- seconds with a number among them that isn't before a transition, or is, are on its side
pub begins_past : (transition first end n : ℤ) → IsUnparted first end transition → transition ≤ℤ n → n <ℤ end → transition ≤ℤ first
begins_past transition first end n (inl before) low high = before
begins_past transition first end n (inr late) low high = absurd (omega (arith, signed_arith))

pub ends_short : (transition first end n : ℤ) → IsUnparted first end transition → first ≤ℤ n → n <ℤ transition → end ≤ℤ transition
ends_short transition first end n (inl before) low high = absurd (omega (arith, signed_arith))
ends_short transition first end n (inr late) low high = late

pub kept_among : (rule : TimeZone) (d : Dst) (first last start end n o from to : ℤ) (m : ℕ) → rule.dst ≡ Some d → AreTransitions d first last start end
    → IsFarInside first last start → IsFarInside first last end → IsShown (Posix rule) n o → first ≤ℤ from → to ≤ℤ last → from ≤ℤ n → n <ℤ to
    → pos m ≡ to → IsUnparted from to (start -ℤ rule.std_offset.seconds) → IsUnparted from to (end -ℤ d.offset.seconds) → IsKeptUpTo (Posix rule) n m o
kept_among rule d first last start end n o from to m some transitions start_far end_far shown low high from_by before at one other = record {
  later = omega (arith, signed_arith);
  shown = λ k ge less.
      let short : k <ℤ to = omega (arith, signed_arith) in
      let window = in_window_alike (start -ℤ rule.std_offset.seconds) (end -ℤ d.offset.seconds) from to n k one other from_by before (omega (arith, signed_arith)) short in
      let here = shown_among rule d first last start end n some transitions start_far end_far (omega (arith, signed_arith)) (omega (arith, signed_arith))
      (nanos_of_seconds n) (omega (arith, signed_arith)) in
      let there = shown_among rule d first last start end k some transitions start_far end_far (omega (arith, signed_arith)) (omega (arith, signed_arith))
      (nanos_of_seconds k) (omega (arith, signed_arith)) in
      there ∙ ap (λ w. cond w d.offset.seconds rule.std_offset.seconds) window ∙ sym here ∙ shown (nanos_of_seconds n) (omega (arith, signed_arith));
}

-- ---- a transition in UTC

pub fits_utc : (transition s r : ℤ) → IsWithin 400_000_000_000 transition → IsOffsetSeconds s → r ≡ to_z w32 (of_z w32 s)
    → FitsSigned w64 (to_z w64 (of_z w64 transition) -ℤ to_z w64 (of_z w64 r))
fits_utc transition s r near small e =
    let offset : to_z w32 (of_z w32 s) ≡ s = omega (arith, ints, small) in
    let transition_back : to_z w64 (of_z w64 transition) ≡ transition = omega (arith, ints, near) in
    let back : to_z w64 (of_z w64 s) ≡ s = omega (arith, ints, small) in
    rw (transition_back, e, offset, back) (fits_back transition s near (omega (arith, signed_arith, small), omega (arith, signed_arith, small)))

pub in_utc : (transition s r : ℤ) → IsWithin 400_000_000_000 transition → IsOffsetSeconds s → r ≡ to_z w32 (of_z w32 s)
    → to_z w64 (of_z w64 (to_z w64 (of_z w64 transition) -ℤ to_z w64 (of_z w64 r))) ≡ transition -ℤ s
in_utc transition s r near small e =
    let offset : to_z w32 (of_z w32 s) ≡ s = omega (arith, ints, small) in
    let transition_back : to_z w64 (of_z w64 transition) ≡ transition = omega (arith, ints, near) in
    let back : to_z w64 (of_z w64 s) ≡ s = omega (arith, ints, small) in
    rw (transition_back, e, offset, back) (omega (arith, ints, small, near))

pub stays_near : (transition s first last : ℤ) → IsWithin 400_000_000_000 transition → IsOffsetSeconds s → IsWithin 400_000_000_000 first
    → IsWithin 400_000_000_000 last → IsFarInside first last transition → IsWithin 400_000_000_000 (transition -ℤ s)
stays_near transition s first last near small from to far = (omega (arith, signed_arith, small, from, far), omega (arith, signed_arith, small, to, far))
