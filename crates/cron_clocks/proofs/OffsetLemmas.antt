-- The readings of a civil second under a rule, from where it lies among the transitions.
use Rattle.std.proofs.Common.{◌≡◌, ℕ, ℤ, ◌+ℤ◌, ◌-ℤ◌, ◌<ℤ◌, true, false, [], ◌∷◌, refl, arith}
use Rattle.std.specs.Ordering.{int_eq}
use Rattle.std.proofs.lemmas.Int.{ints}
use Rattle.jiff_core.specs.Timestamp.{nanos_of_seconds}
use Rattle.jiff_core.specs.declared.Offset.{Offset}
use Rattle.jiff_tz.specs.PosixRule.{ambiguous_ahead, ambiguous_behind, in_span, in_window}
use Rattle.cron_moments.specs.Readings.{reading, readings_by}
use Rattle.cron_clocks.specs.Spans.{PartsAlike}

apart_back : (a b : ℤ) → b <ℤ a → int_eq a b ≡ false
apart_back a b h = grind (arith, ints)

module _ (std dst : Offset) (w : ℤ × ℤ) (start end saving n : ℤ) (alike : PartsAlike std dst w start end saving n) (k : ℕ) where
  module _ (order : std.seconds <ℤ dst.seconds) where
    pub ahead_standard : in_window (start, end) n ≡ false → readings_by k (ambiguous_ahead std dst w (nanos_of_seconds n)) ≡ reading k std ∷ []
    ahead_standard e = rw (alike.window, e) refl

    pub ahead_gap : in_window (start, end) n ≡ true → in_span start (start +ℤ saving) n ≡ true
        → readings_by k (ambiguous_ahead std dst w (nanos_of_seconds n)) ≡ []
    ahead_gap e f = rw (alike.window, e, alike.starts_ahead, f) refl

    pub ahead_fold : in_window (start, end) n ≡ true → in_span start (start +ℤ saving) n ≡ false → in_span (end -ℤ saving) end n ≡ true
        → readings_by k (ambiguous_ahead std dst w (nanos_of_seconds n)) ≡ reading k dst ∷ reading k std ∷ []
    ahead_fold e f g = rw (alike.window, e, alike.starts_ahead, f, alike.ends_ahead, g, apart_back dst.seconds std.seconds order) refl

    pub ahead_saving : in_window (start, end) n ≡ true → in_span start (start +ℤ saving) n ≡ false → in_span (end -ℤ saving) end n ≡ false
        → readings_by k (ambiguous_ahead std dst w (nanos_of_seconds n)) ≡ reading k dst ∷ []
    ahead_saving e f g = rw (alike.window, e, alike.starts_ahead, f, alike.ends_ahead, g) refl

  module _ (order : dst.seconds <ℤ std.seconds) where
    pub behind_saving : in_window (start, end) n ≡ true → readings_by k (ambiguous_behind std dst w (nanos_of_seconds n)) ≡ reading k dst ∷ []
    behind_saving e = rw (alike.window, e) refl

    pub behind_fold : in_window (start, end) n ≡ false → in_span (start +ℤ saving) start n ≡ true
        → readings_by k (ambiguous_behind std dst w (nanos_of_seconds n)) ≡ reading k std ∷ reading k dst ∷ []
    behind_fold e f = rw (alike.window, e, alike.starts_behind, f, apart_back std.seconds dst.seconds order) refl

    pub behind_gap : in_window (start, end) n ≡ false → in_span (start +ℤ saving) start n ≡ false → in_span end (end -ℤ saving) n ≡ true
        → readings_by k (ambiguous_behind std dst w (nanos_of_seconds n)) ≡ []
    behind_gap e f g = rw (alike.window, e, alike.starts_behind, f, alike.ends_behind, g) refl

    pub behind_standard : in_window (start, end) n ≡ false → in_span (start +ℤ saving) start n ≡ false → in_span end (end -ℤ saving) n ≡ false
        → readings_by k (ambiguous_behind std dst w (nanos_of_seconds n)) ≡ reading k std ∷ []
    behind_standard e f g = rw (alike.window, e, alike.starts_behind, f, alike.ends_behind, g) refl
