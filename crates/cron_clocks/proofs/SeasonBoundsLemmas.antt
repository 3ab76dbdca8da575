-- What a rule tells of a second that lies far from both transitions of its year.
use Rattle.std.proofs.Common.{◌≡◌, ℕ, ◌⊎◌, inl, inr, true, false, not, cond, ℤ, pos, ◌+ℤ◌, ◌-ℤ◌, ◌≤ℤ◌, ◌<ℤ◌, Some, refl, ap, ◌∙◌, arith}
use Rattle.std.proofs.lemmas.Int.{by_lt_z}
use Rattle.std.specs.Int.{int_div_euclid}
use Rattle.jiff_core.specs.Calendar.{IsYear}
use Rattle.jiff_core.specs.Timestamp.{IsOffsetSeconds, nanos_of_seconds}
use Rattle.jiff_core.specs.declared.Offset.{Offset}
use Rattle.jiff_core.proofs.CalendarLemmas.{days_in_year_bounds}
use Rattle.jiff_core.proofs.SignedLemmas.{signed_arith}
use Rattle.jiff_tz.specs.declared.ambiguous.AmbiguousOffset.TheVariants.{Unambiguous}
use Rattle.jiff_tz.specs.declared.posix.DayTime.{DayTime}
use Rattle.jiff_tz.specs.declared.posix.Dst.{Dst}
use Rattle.jiff_tz.specs.declared.posix.TimeZone.{TimeZone}
use Rattle.jiff_tz.specs.Zone.{offset_at}
use Rattle.jiff_tz.specs.declared.timezone.TimeZone.TheVariants.{Posix}
use Rattle.jiff_tz.specs.PosixRule.{ambiguous_at, ambiguous_by, in_span, in_window, rule_nanos}
use Rattle.cron_moments.specs.Civil.{civil}
use Rattle.cron_clocks.specs.Seasons.{AreInOrder, IsSeasonBounds, IsYearAt, TellsOne}
use Rattle.cron_clocks.specs.Spans.{AreTransitions, IsFarInside, IsTransition, PartsAlike, year_end}
use Rattle.cron_clocks.specs.Transitions.{AlwaysTransitionsWithin, TransitionsAt, week, year_start}
use Rattle.cron_clocks.proofs.ClockLemmas.{shown_among}
use Rattle.cron_clocks.proofs.SpanLemmas.{same_year, told_as}
use Rattle.cron_clocks.proofs.TableLemmas.{same_offset}
use Rattle.cron_clocks.proofs.Windows.{lt_yes, lt_no, span_early, span_inside, span_late, window_in_order, window_turned}

-- ---- from the tests of jiff

module _ (std dst : Offset) (w : ℤ × ℤ) (start end saving n : ℤ) (alike : PartsAlike std dst w start end saving n) where
  by_standard : in_window (start, end) n ≡ false → in_span (start +ℤ saving) start n ≡ false → in_span end (end -ℤ saving) n ≡ false
      → ambiguous_by std dst w (nanos_of_seconds n) ≡ Unambiguous std
  by_standard e f g =
      by_lt_z dst.seconds std.seconds
      (λ less. rw (lt_yes _ _ less, alike.window, e, alike.starts_behind, f, alike.ends_behind, g) refl)
      (λ least. by_lt_z std.seconds dst.seconds
      (λ more. rw (lt_no _ _ least, lt_yes _ _ more, alike.window, e) refl)
      (λ most. rw (lt_no _ _ least, lt_no _ _ most) refl))

  by_saving : in_window (start, end) n ≡ true → in_span start (start +ℤ saving) n ≡ false → in_span (end -ℤ saving) end n ≡ false
      → ambiguous_by std dst w (nanos_of_seconds n) ≡ Unambiguous dst
  by_saving e f g =
      by_lt_z dst.seconds std.seconds
      (λ less. rw (lt_yes _ _ less, alike.window, e) refl)
      (λ least. by_lt_z std.seconds dst.seconds
      (λ more. rw (lt_no _ _ least, lt_yes _ _ more, alike.window, e, alike.starts_ahead, f, alike.ends_ahead, g) refl)
      (λ most. let same : std ≡ dst = same_offset std dst (omega (arith, signed_arith)) in
      rw (lt_no _ _ least, lt_no _ _ most) (ap Unambiguous same)))

-- ---- far from a transition

-- two clocks are nearer to each other
abbrev pub far : ℤ
far = pos 187_200

abbrev IsFarFrom : ℤ → ℤ → Type 0
IsFarFrom transition n = ((n +ℤ far) ≤ℤ transition) ⊎ ((transition +ℤ far) ≤ℤ n)

no_span : (transition a b n : ℤ) → IsFarFrom transition n → ((transition -ℤ far) <ℤ a) → (b <ℤ (transition +ℤ far)) → in_span a b n ≡ false
no_span transition a b n (inl early) low high = span_early a b n (omega (arith, signed_arith))
no_span transition a b n (inr late) low high = span_late a b n (omega (arith, signed_arith))

-- a transition on one of the clocks
abbrev IsNearTo : ℤ → ℤ → Type 0
IsNearTo transition a = ((transition -ℤ pos 93_600) ≤ℤ a) × (a ≤ℤ (transition +ℤ pos 93_600))

near_to : (transition s : ℤ) → IsOffsetSeconds s → IsNearTo transition (transition -ℤ s)
near_to transition s small = (omega (arith, signed_arith, small), omega (arith, signed_arith, small))

near_itself : (transition : ℤ) → IsNearTo transition transition
near_itself transition = (omega (arith, signed_arith), omega (arith, signed_arith))

module _ (first second a b n : ℤ) (apart : (first +ℤ week) ≤ℤ second) (one : IsNearTo first a) (other : IsNearTo second b) where
  early_within : (n +ℤ far) ≤ℤ first → in_window (a, b) n ≡ false
  early_within h =
      let low = one.0 in
      let high = other.0 in
      let top = one.1 in
      window_in_order a b n (omega (arith, signed_arith)) ∙ span_early a b n (omega (arith, signed_arith))

  late_within : (second +ℤ far) ≤ℤ n → in_window (a, b) n ≡ false
  late_within h =
      let low = one.1 in
      let high = other.0 in
      let top = other.1 in
      window_in_order a b n (omega (arith, signed_arith)) ∙ span_late a b n (omega (arith, signed_arith))

  inside_within : (first +ℤ far) ≤ℤ n → (n +ℤ far) ≤ℤ second → in_window (a, b) n ≡ true
  inside_within from to =
      let low = one.1 in
      let high = other.0 in
      window_in_order a b n (omega (arith, signed_arith)) ∙ span_inside a b n (omega (arith, signed_arith)) (omega (arith, signed_arith))

  early_across : (n +ℤ far) ≤ℤ first → in_window (b, a) n ≡ true
  early_across h =
      let low = one.0 in
      let high = other.0 in
      let top = one.1 in
      window_turned b a n (omega (arith, signed_arith)) ∙ ap not (span_early a b n (omega (arith, signed_arith)))

  late_across : (second +ℤ far) ≤ℤ n → in_window (b, a) n ≡ true
  late_across h =
      let low = one.1 in
      let high = other.0 in
      let top = other.1 in
      window_turned b a n (omega (arith, signed_arith)) ∙ ap not (span_late a b n (omega (arith, signed_arith)))

  inside_across : (first +ℤ far) ≤ℤ n → (n +ℤ far) ≤ℤ second → in_window (b, a) n ≡ false
  inside_across from to =
      let low = one.1 in
      let high = other.0 in
      window_turned b a n (omega (arith, signed_arith)) ∙ ap not (span_inside a b n (omega (arith, signed_arith)) (omega (arith, signed_arith)))

-- ---- a second of a year whose transitions are known

no_offset : IsOffsetSeconds (pos 0)
no_offset = (omega (arith, signed_arith), omega (arith, signed_arith))

is_transition : (transition : DayTime) (y second : ℤ) → TransitionsAt transition y second → IsFarInside (year_start y) (year_end y) second → IsTransition transition y second
is_transition transition y second transitions inside =
    let low = inside.0 in
    let high = inside.1 in
    let moment : rule_nanos y transition (pos 0) ≡ nanos_of_seconds second = transitions (pos 0) no_offset ∙ omega (arith, signed_arith) in
    record {
      value = inl (moment, omega (arith, signed_arith));
      low = omega (arith, signed_arith);
      high = omega (arith, signed_arith);
    }

module _ (rule : TimeZone) (d : Dst) (some : rule.dst ≡ Some d) (y : ℤ) (n : ℕ) (at : IsYearAt y n) (start end : ℤ)
    (starts : TransitionsAt d.rule.start y start) (ends : TransitionsAt d.rule.end y end)
    (start_in : IsFarInside (year_start y) (year_end y) start) (end_in : IsFarInside (year_start y) (year_end y) end)
    (from_start : IsFarFrom start (pos n)) (from_end : IsFarFrom end (pos n)) where
  abbrev std : Offset
  std = rule.std_offset

  abbrev saving : ℤ
  saving = d.offset.seconds -ℤ std.seconds

  start_is : IsTransition d.rule.start y start
  start_is = is_transition d.rule.start y start starts start_in

  end_is : IsTransition d.rule.end y end
  end_is = is_transition d.rule.end y end ends end_in

  are_transitions : AreTransitions d (year_start y) (year_end y) start end
  are_transitions = record { number = y; year = at.year; from = refl; to = refl; starts = start_is; ends = end_is }

  shown : (t : ℤ) → int_div_euclid t (pos 1_000_000_000) ≡ pos n
      → offset_at (Posix rule) t ≡ cond (in_window (start -ℤ std.seconds, end -ℤ d.offset.seconds) (pos n)) d.offset.seconds std.seconds
  shown t = shown_among rule d (year_start y) (year_end y) start end (pos n) some are_transitions start_in end_in at.low at.high t

  told : (o : Offset) → ((w : ℤ × ℤ) → PartsAlike std d.offset w start end saving (pos n)
      → ambiguous_by std d.offset w (nanos_of_seconds (pos n)) ≡ Unambiguous o) → ambiguous_at rule (civil n) ≡ Unambiguous o
  told o by =
      told_as rule d some n at.in_range y (same_year n y at.in_range at.year at.low at.high) start end (Unambiguous o)
      start_is.value start_is.low start_is.high end_is.value end_is.low end_is.high by

  tells_standard : in_window (start -ℤ std.seconds, end -ℤ d.offset.seconds) (pos n) ≡ false → in_window (start, end) (pos n) ≡ false → TellsOne rule n std
  tells_standard utc here =
      let std_in = std.in_range in
      let dst_in = d.offset.in_range in
      record {
        told = told std (λ w alike. by_standard std d.offset w start end saving (pos n) alike here
            (no_span start _ _ _ from_start (omega (arith, signed_arith)) (omega (arith, signed_arith)))
            (no_span end _ _ _ from_end (omega (arith, signed_arith)) (omega (arith, signed_arith))));
        shown = λ t e. shown t e ∙ ap (λ v. cond v d.offset.seconds std.seconds) utc;
      }

  tells_saving : in_window (start -ℤ std.seconds, end -ℤ d.offset.seconds) (pos n) ≡ true → in_window (start, end) (pos n) ≡ true → TellsOne rule n d.offset
  tells_saving utc here =
      let std_in = std.in_range in
      let dst_in = d.offset.in_range in
      record {
        told = told d.offset (λ w alike. by_saving std d.offset w start end saving (pos n) alike here
            (no_span start _ _ _ from_start (omega (arith, signed_arith)) (omega (arith, signed_arith)))
            (no_span end _ _ _ from_end (omega (arith, signed_arith)) (omega (arith, signed_arith))));
        shown = λ t e. shown t e ∙ ap (λ v. cond v d.offset.seconds std.seconds) utc;
      }

-- ---- a year with both transitions among these seconds

record TwoTransitions (a b e f : ℤ) (earlier later : DayTime) (y : ℤ) : Type 0 where
  first : ℤ
  second : ℤ
  first_transitions : TransitionsAt earlier y first
  second_transitions : TransitionsAt later y second
  first_in : IsFarInside (year_start y) (year_end y) first
  second_in : IsFarInside (year_start y) (year_end y) second
  apart : (first +ℤ week) ≤ℤ second
  first_low : (year_start y +ℤ a) ≤ℤ first
  first_high : first ≤ℤ (year_start y +ℤ b)
  second_low : (year_start y +ℤ e) ≤ℤ second
  second_high : second ≤ℤ (year_start y +ℤ f)

two_transitions : (a b e f : ℤ) → AreInOrder a b e f → (earlier later : DayTime) → AlwaysTransitionsWithin a b earlier → AlwaysTransitionsWithin e f later
    → (y : ℤ) → IsYear y → TwoTransitions a b e f earlier later y
two_transitions a b e f order earlier later one other y year =
    let transition = one y year in
    let next = other y year in
    let transition_low = transition.low in
    let transition_high = transition.high in
    let next_low = next.low in
    let next_high = next.high in
    let length = days_in_year_bounds y in
    record {
      first = transition.second;
      second = next.second;
      first_transitions = transition.transitions;
      second_transitions = next.transitions;
      first_in = (omega (arith, signed_arith, order), omega (arith, signed_arith, order));
      second_in = (omega (arith, signed_arith, order), omega (arith, signed_arith, order));
      apart = omega (arith, signed_arith, order);
      first_low = transition_low;
      first_high = transition_high;
      second_low = next_low;
      second_high = next_high;
    }

module _ (rule : TimeZone) (d : Dst) (some : rule.dst ≡ Some d) (y : ℤ) (n : ℕ) (at : IsYearAt y n) (a b e f : ℤ) where
  abbrev standard : Offset
  standard = rule.std_offset

  abbrev shifted : Offset
  shifted = d.offset

  on_standard : (transition : ℤ) → IsNearTo transition (transition -ℤ standard.seconds)
  on_standard transition = near_to transition standard.seconds standard.in_range

  on_shifted : (transition : ℤ) → IsNearTo transition (transition -ℤ shifted.seconds)
  on_shifted transition = near_to transition shifted.seconds shifted.in_range

  -- the saving lies within the year
  module _ (two : TwoTransitions a b e f d.rule.start d.rule.end y) where
    within_early : (pos n +ℤ far) ≤ℤ two.first → TellsOne rule n standard
    within_early h =
        let apart = two.apart in
        tells_standard rule d some y n at two.first two.second two.first_transitions two.second_transitions two.first_in two.second_in
        (inl h) (inl (omega (arith, signed_arith)))
        (early_within two.first two.second _ _ (pos n) apart (on_standard two.first) (on_shifted two.second) h)
        (early_within two.first two.second _ _ (pos n) apart (near_itself two.first) (near_itself two.second) h)

    within_late : (two.second +ℤ far) ≤ℤ pos n → TellsOne rule n standard
    within_late h =
        let apart = two.apart in
        tells_standard rule d some y n at two.first two.second two.first_transitions two.second_transitions two.first_in two.second_in
        (inr (omega (arith, signed_arith))) (inr h)
        (late_within two.first two.second _ _ (pos n) apart (on_standard two.first) (on_shifted two.second) h)
        (late_within two.first two.second _ _ (pos n) apart (near_itself two.first) (near_itself two.second) h)

    within_inside : (two.first +ℤ far) ≤ℤ pos n → (pos n +ℤ far) ≤ℤ two.second → TellsOne rule n shifted
    within_inside low high =
        let apart = two.apart in
        tells_saving rule d some y n at two.first two.second two.first_transitions two.second_transitions two.first_in two.second_in
        (inr low) (inl high)
        (inside_within two.first two.second _ _ (pos n) apart (on_standard two.first) (on_shifted two.second) low high)
        (inside_within two.first two.second _ _ (pos n) apart (near_itself two.first) (near_itself two.second) low high)

  -- it lies across the new year
  module _ (two : TwoTransitions a b e f d.rule.end d.rule.start y) where
    across_early : (pos n +ℤ far) ≤ℤ two.first → TellsOne rule n shifted
    across_early h =
        let apart = two.apart in
        tells_saving rule d some y n at two.second two.first two.second_transitions two.first_transitions two.second_in two.first_in
        (inl (omega (arith, signed_arith))) (inl h)
        (early_across two.first two.second _ _ (pos n) apart (on_shifted two.first) (on_standard two.second) h)
        (early_across two.first two.second _ _ (pos n) apart (near_itself two.first) (near_itself two.second) h)

    across_late : (two.second +ℤ far) ≤ℤ pos n → TellsOne rule n shifted
    across_late h =
        let apart = two.apart in
        tells_saving rule d some y n at two.second two.first two.second_transitions two.first_transitions two.second_in two.first_in
        (inr h) (inr (omega (arith, signed_arith)))
        (late_across two.first two.second _ _ (pos n) apart (on_shifted two.first) (on_standard two.second) h)
        (late_across two.first two.second _ _ (pos n) apart (near_itself two.first) (near_itself two.second) h)

    across_inside : (two.first +ℤ far) ≤ℤ pos n → (pos n +ℤ far) ≤ℤ two.second → TellsOne rule n standard
    across_inside low high =
        let apart = two.apart in
        tells_standard rule d some y n at two.second two.first two.second_transitions two.first_transitions two.second_in two.first_in
        (inl high) (inr low)
        (inside_across two.first two.second _ _ (pos n) apart (on_shifted two.first) (on_standard two.second) low high)
        (inside_across two.first two.second _ _ (pos n) apart (near_itself two.first) (near_itself two.second) low high)

-- ---- the bounds of seasons of each year

-- the seconds of the year at which the clocks are far from the transitions
pub record AreFar (a b e f : ℤ) (outer_end inner_first inner_end outer_first : ℕ) : Type 0 where
  pub order : AreInOrder a b e f
  pub outer_end_is : pos outer_end ≡ a -ℤ far
  pub inner_first_is : pos inner_first ≡ b +ℤ far
  pub inner_end_is : pos inner_end ≡ e -ℤ far
  pub outer_first_is : pos outer_first ≡ f +ℤ far

module _ (rule : TimeZone) (d : Dst) (some : rule.dst ≡ Some d) (a b e f : ℤ) (outer_end inner_first inner_end outer_first : ℕ)
    (seconds : AreFar a b e f outer_end inner_first inner_end outer_first) where
  early_by : (ys first : ℤ) (n : ℕ) → (ys +ℤ a) ≤ℤ first → pos n <ℤ (ys +ℤ pos outer_end) → (pos n +ℤ far) ≤ℤ first
  early_by ys first n low h = let is = seconds.outer_end_is in omega (arith, signed_arith)

  late_by : (ys second : ℤ) (n : ℕ) → second ≤ℤ (ys +ℤ f) → (ys +ℤ pos outer_first) ≤ℤ pos n → (second +ℤ far) ≤ℤ pos n
  late_by ys second n high h = let is = seconds.outer_first_is in omega (arith, signed_arith)

  past_by : (ys first : ℤ) (n : ℕ) → first ≤ℤ (ys +ℤ b) → (ys +ℤ pos inner_first) ≤ℤ pos n → (first +ℤ far) ≤ℤ pos n
  past_by ys first n high h = let is = seconds.inner_first_is in omega (arith, signed_arith)

  short_by : (ys second : ℤ) (n : ℕ) → (ys +ℤ e) ≤ℤ second → pos n <ℤ (ys +ℤ pos inner_end) → (pos n +ℤ far) ≤ℤ second
  short_by ys second n low h = let is = seconds.inner_end_is in omega (arith, signed_arith)

  pub season_bounds_within : AlwaysTransitionsWithin a b d.rule.start → AlwaysTransitionsWithin e f d.rule.end
      → IsSeasonBounds rule outer_end inner_first inner_end outer_first rule.std_offset d.offset
  season_bounds_within starts ends =
      let two = two_transitions a b e f seconds.order d.rule.start d.rule.end starts ends in
      record {
        before = λ y n at h. let transitions = two y at.year in
            within_early rule d some y n at a b e f transitions (early_by (year_start y) transitions.first n transitions.first_low h);
        between = λ y n at from to. let transitions = two y at.year in
            within_inside rule d some y n at a b e f transitions (past_by (year_start y) transitions.first n transitions.first_high from)
            (short_by (year_start y) transitions.second n transitions.second_low to);
        after = λ y n at h. let transitions = two y at.year in
            within_late rule d some y n at a b e f transitions (late_by (year_start y) transitions.second n transitions.second_high h);
      }

  pub season_bounds_across : AlwaysTransitionsWithin a b d.rule.end → AlwaysTransitionsWithin e f d.rule.start
      → IsSeasonBounds rule outer_end inner_first inner_end outer_first d.offset rule.std_offset
  season_bounds_across ends starts =
      let two = two_transitions a b e f seconds.order d.rule.end d.rule.start ends starts in
      record {
        before = λ y n at h. let transitions = two y at.year in
            across_early rule d some y n at a b e f transitions (early_by (year_start y) transitions.first n transitions.first_low h);
        between = λ y n at from to. let transitions = two y at.year in
            across_inside rule d some y n at a b e f transitions (past_by (year_start y) transitions.first n transitions.first_high from)
            (short_by (year_start y) transitions.second n transitions.second_low to);
        after = λ y n at h. let transitions = two y at.year in
            across_late rule d some y n at a b e f transitions (late_by (year_start y) transitions.second n transitions.second_high h);
      }
