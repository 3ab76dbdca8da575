-- What a clock of a rule shows in a year, from jiff's window of that year.
use Rattle.std.proofs.Common.{◌≡◌, Bool, true, false, cond, not, ◌⊎◌, inl, inr, ◌&&◌, ℤ, pos, ◌+ℤ◌, ◌-ℤ◌, ◌≤ℤ◌, ◌<ℤ◌, int_le, Option, Some, None, refl, sym, ap, subst, ◌∙◌, arith}
use Rattle.std.proofs.lemmas.Int.{ints}
use Rattle.jiff_core.specs.Calendar.{IsYear}
use Rattle.jiff_core.specs.Timestamp.{nanos_of_seconds}
use Rattle.jiff_core.specs.declared.Offset.{Offset}
use Rattle.jiff_core.proofs.SignedLemmas.{signed_arith}
use Rattle.jiff_tz.specs.declared.posix.Dst.{Dst}
use Rattle.jiff_tz.specs.declared.posix.TimeZone.{TimeZone}
use Rattle.jiff_tz.specs.declared.timezone.TimeZone.TheVariants.{Posix}
use Rattle.jiff_tz.specs.PosixRule.{match_some, dst_at_by, in_window, int_same, utc_window, first_nanosecond, last_nanosecond}
use Rattle.jiff_tz.specs.Year.{year_of_nanos}
use Rattle.jiff_tz.specs.Zone.{offset_at}
use Rattle.cron_clocks.specs.Clocks.{shown_offset}
use Rattle.cron_clocks.specs.Transitions.{TransitionsAt, AlwaysInOrder, year_start}
use Rattle.cron_clocks.proofs.Seasons.{Season}
use Rattle.cron_clocks.proofs.Windows.{window_in_order, window_turned, span_inside, span_early, span_late}

picked : (w : Bool) (std : Offset) (d : Dst) → (match_some (cond w (Some d) None) std (λ (e : Dst). e.offset)).seconds ≡ cond w d.offset.seconds std.seconds
picked true std d = refl
picked false std d = refl

not_same : (a b : ℤ) → b <ℤ a → int_same a b ≡ false
not_same a b h = let above : int_le a b ≡ false = grind (arith, ints) in rw above refl

-- a window that doesn't begin as the year does is the two transitions
plain_window : (a b f l : ℤ) (left : Bool) → f <ℤ a → ◌≡◌ {A = ℤ × ℤ} (cond (int_same a f && left) (a, l) (a, b)) (a, b)
plain_window a b f l left h = rw (not_same a f h) refl

-- a rule with no saving
pub shown_plain : (rule : TimeZone) (t : ℤ) → rule.dst ≡ None → offset_at (Posix rule) t ≡ rule.std_offset.seconds
unfolding offset_at
shown_plain rule t none =
    ap (λ (o : Option Dst). (match_some (dst_at_by rule.std_offset o t) rule.std_offset (λ (e : Dst). e.offset)).seconds) none

module _ (rule : TimeZone) (d : Dst) (some : rule.dst ≡ Some d) where
  abbrev shows : ℤ → ℤ
  shows = shown_offset (Posix rule)

  abbrev std : ℤ
  std = rule.std_offset.seconds

  abbrev dst : ℤ
  dst = d.offset.seconds

  window_is : (y start end : ℤ) → TransitionsAt d.rule.start y start → TransitionsAt d.rule.end y end → (year_start y +ℤ pos 93_600) ≤ℤ start
      → utc_window d y rule.std_offset ≡ (nanos_of_seconds (start -ℤ std), nanos_of_seconds (end -ℤ dst))
  unfolding utc_window
  window_is y start end first second low =
      let small = rule.std_offset.in_range in
      rw (first std rule.std_offset.in_range, second dst d.offset.in_range)
      (plain_window (nanos_of_seconds (start -ℤ std)) (nanos_of_seconds (end -ℤ dst)) (first_nanosecond y) (last_nanosecond y) _ (omega (arith, signed_arith)))

  pub shows_by : (y start end t : ℤ) → TransitionsAt d.rule.start y start → TransitionsAt d.rule.end y end → (year_start y +ℤ pos 93_600) ≤ℤ start
      → year_of_nanos t ≡ y → offset_at (Posix rule) t ≡ cond (in_window (nanos_of_seconds (start -ℤ std), nanos_of_seconds (end -ℤ dst)) t) dst std
  unfolding offset_at
  shows_by y start end t first second low year =
      ap (λ (o : Option Dst). (match_some (dst_at_by rule.std_offset o t) rule.std_offset (λ (e : Dst). e.offset)).seconds) some
      ∙ picked (in_window (utc_window d (year_of_nanos t) rule.std_offset) t) rule.std_offset d
      ∙ ap (λ (w : ℤ × ℤ). cond (in_window w t) dst std)
      (ap (λ (k : ℤ). utc_window d k rule.std_offset) year ∙ window_is y start end first second low)

  -- a saving within the year
  unfoldable pub saving_within : AlwaysInOrder d.rule.start d.rule.end → (y : ℤ) → IsYear y → Season shows std dst y
  saving_within transitions y year =
      let transition = transitions y year in
      let low = transition.low in
      let apart = transition.apart in
      let std_in = rule.std_offset.in_range in
      let dst_in = d.offset.in_range in
      let a : ℤ = nanos_of_seconds (transition.first -ℤ std) in
      let b : ℤ = nanos_of_seconds (transition.second -ℤ dst) in
      let span = λ (n : ℤ). window_in_order a b (nanos_of_seconds n) (omega (arith, signed_arith)) in
      let shown = λ (n : ℤ) (e : year_of_nanos (nanos_of_seconds n) ≡ y).
      shows_by y transition.first transition.second (nanos_of_seconds n) transition.first_transitions transition.second_transitions (omega (arith, signed_arith)) e
      ∙ ap (λ w. cond w dst std) (span n) in
      record {
        first = transition.first;
        second = transition.second;
        low = low;
        apart = apart;
        high = transition.high;
        before = λ n e early. shown n e ∙ ap (λ w. cond w dst std) (span_early a b (nanos_of_seconds n) (omega (arith, signed_arith)));
        between = λ n e from to.
            shown n e ∙ ap (λ w. cond w dst std) (span_inside a b (nanos_of_seconds n) (omega (arith, signed_arith)) (omega (arith, signed_arith)));
        after = λ n e late. shown n e ∙ ap (λ w. cond w dst std) (span_late a b (nanos_of_seconds n) (omega (arith, signed_arith)));
      }

  -- a saving across the new year
  unfoldable pub saving_across : AlwaysInOrder d.rule.end d.rule.start → (y : ℤ) → IsYear y → Season shows dst std y
  saving_across transitions y year =
      let transition = transitions y year in
      let low = transition.low in
      let apart = transition.apart in
      let std_in = rule.std_offset.in_range in
      let dst_in = d.offset.in_range in
      let a : ℤ = nanos_of_seconds (transition.first -ℤ dst) in
      let b : ℤ = nanos_of_seconds (transition.second -ℤ std) in
      let span = λ (n : ℤ). window_turned b a (nanos_of_seconds n) (omega (arith, signed_arith)) in
      let shown = λ (n : ℤ) (e : year_of_nanos (nanos_of_seconds n) ≡ y).
      shows_by y transition.second transition.first (nanos_of_seconds n) transition.second_transitions transition.first_transitions (omega (arith, signed_arith)) e
      ∙ ap (λ w. cond w dst std) (span n) in
      record {
        first = transition.first;
        second = transition.second;
        low = low;
        apart = apart;
        high = transition.high;
        before = λ n e early. shown n e ∙ ap (λ w. cond (not w) dst std) (span_early a b (nanos_of_seconds n) (omega (arith, signed_arith)));
        between = λ n e from to.
            shown n e ∙ ap (λ w. cond (not w) dst std) (span_inside a b (nanos_of_seconds n) (omega (arith, signed_arith)) (omega (arith, signed_arith)));
        after = λ n e late. shown n e ∙ ap (λ w. cond (not w) dst std) (span_late a b (nanos_of_seconds n) (omega (arith, signed_arith)));
      }

  -- a clock shows the one or the other
  pub shows_either : (n : ℤ) → (shows n ≡ std) ⊎ (shows n ≡ dst)
  unfolding offset_at
  shows_either n =
      let P : Option Dst → Type 0 = λ o. ((match_some (dst_at_by rule.std_offset o (nanos_of_seconds n)) rule.std_offset (λ (e : Dst). e.offset)).seconds ≡ std)
      ⊎ ((match_some (dst_at_by rule.std_offset o (nanos_of_seconds n)) rule.std_offset (λ (e : Dst). e.offset)).seconds ≡ dst) in
      subst P (sym some) (either (in_window (utc_window d (year_of_nanos (nanos_of_seconds n)) rule.std_offset) (nanos_of_seconds n)))
    where
      either : (w : Bool) → ((match_some (cond w (Some d) None) rule.std_offset (λ (e : Dst). e.offset)).seconds ≡ std)
          ⊎ ((match_some (cond w (Some d) None) rule.std_offset (λ (e : Dst). e.offset)).seconds ≡ dst)
      either true = inr refl
      either false = inl refl
