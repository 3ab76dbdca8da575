-- Stretches: civil seconds in a row that a zone reads at the same offsets.
use Rattle.std.specs.Prelude.{◌≡◌, ℕ, ◌<◌, ◌≤◌, Option, Some, None, List, [], ◌∷◌}
use Rattle.jiff_core.specs.declared.Offset.{Offset}
use Rattle.jiff_tz.specs.declared.ambiguous.AmbiguousOffset.{AmbiguousOffset}
use Rattle.jiff_tz.specs.declared.timezone.TimeZone.{TimeZone}
use Rattle.cron_moments.specs.Civil.{seconds_in_range}
use Rattle.cron_moments.specs.Readings.{Reading, reading, readings, readings_by}
use Rattle.cron_clocks.specs.declared.stretch.Stretch.{Stretch}

-- the readings of the civil second c at the offsets that are given: none, one or two
abbrev pub readings_at : ℕ → Option Offset → Option Offset → List Reading
readings_at c None later = []
readings_at c (Some o) None = reading c o ∷ []
readings_at c (Some o) (Some p) = reading c o ∷ reading c p ∷ []

-- the look-up's answer gives each civil second the readings at these offsets
abbrev pub IsToldBy : AmbiguousOffset → Option Offset → Option Offset → Type 0
IsToldBy a earlier later = (k : ℕ) → readings_at k earlier later ≡ readings_by k a

-- each civil second of the stretch, which may have none, has its readings at the offsets of the
-- stretch
abbrev pub IsKnown : TimeZone → Stretch → Type 0
IsKnown z st = (k : ℕ) → st.first ≤ k → k < st.end → readings z k ≡ readings_at k st.earlier st.later

-- the stretch has a civil second, lies in the range, and is known
pub record IsSteady (z : TimeZone) (st : Stretch) : Type 0 where
  pub some : st.first < st.end
  pub high : st.end ≤ seconds_in_range
  pub same : IsKnown z st

-- the stretch of the whole range at one offset
abbrev pub whole_range : Offset → Stretch
whole_range o = record { first = 0; end = seconds_in_range; earlier = Some o; later = None }
