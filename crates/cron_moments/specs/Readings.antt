-- The readings of a civil second in a zone.
use Rattle.std.specs.Prelude.{ℕ, ℤ, pos, ◌-ℤ◌, List, [], ◌∷◌, if◌then◌else◌}
use Rattle.std.specs.Ordering.{int_eq}
use Rattle.jiff_core.specs.declared.Offset.{Offset}
use Rattle.jiff_tz.specs.declared.ambiguous.AmbiguousOffset.{AmbiguousOffset}
use Rattle.jiff_tz.specs.declared.ambiguous.AmbiguousOffset.TheVariants.{Unambiguous, Gap, Fold}
use Rattle.jiff_tz.specs.declared.timezone.TimeZone.{TimeZone}
use Rattle.jiff_tz.specs.Zone.{ambiguous_at}
use Rattle.cron_moments.specs.Civil.{civil}

-- the civil second with this number, counted from 1970-01-01 00:00:00, as a clock at this offset
-- shows it
pub record Reading : Type 0 where
  pub second : ℕ
  pub offset : Offset

abbrev pub reading : ℕ → Offset → Reading
reading c o = record { second = c; offset = o }

-- the instant of a reading, in seconds since 1970-01-01T00:00:00Z
abbrev pub instant : Reading → ℤ
instant r = pos r.second -ℤ r.offset.seconds

-- The readings of the civil second c: none in a gap, and else one. In a fold there are two, if its
-- offsets differ: at the offset before the transition, and then at the one after it.
abbrev pub readings_by : ℕ → AmbiguousOffset → List Reading
readings_by c (Unambiguous o) = reading c o ∷ []
readings_by c (Gap before after) = []
readings_by c (Fold before after) =
    if int_eq before.seconds after.seconds then reading c before ∷ []
    else reading c before ∷ reading c after ∷ []

-- the readings of the civil second c in the zone, as `jiff` finds them
unfoldable pub readings : TimeZone → ℕ → List Reading
readings z c = readings_by c (ambiguous_at z (civil c))
