-- Instants from one on, up to an end, at which a clock keeps its offset.
use Rattle.std.specs.Prelude.{◌≡◌, ℤ, ◌≤ℤ◌, ◌<ℤ◌, Option, IfSome}
use Rattle.jiff_core.specs.Timestamp.{nanos_of_seconds}
use Rattle.jiff_tz.specs.Year.{year_of_nanos}
use Rattle.jiff_tz.specs.declared.info.OffsetInfo.{OffsetInfo}
use Rattle.cron_dues.specs.Clock.Due.{Clock}

-- each whole second from n on, up to an end, lies in the year of n
abbrev pub IsOneYear : ℤ → ℤ → Type 0
IsOneYear n end = (k : ℤ) → n ≤ℤ k → k <ℤ end → year_of_nanos (nanos_of_seconds k) ≡ year_of_nanos (nanos_of_seconds n)

-- at each whole second from n on, up to an end, the clock shows this offset
abbrev pub IsKept : Clock → ℤ → ℤ → ℤ → Type 0
IsKept clock n end o = (k : ℤ) → n ≤ℤ k → k <ℤ end → (clock k).seconds ≡ o

-- the instant comes before the next transition, if there is one
abbrev pub IsShortOf : Option (ℤ × OffsetInfo) → ℤ → Type 0
IsShortOf next n = IfSome next (λ t. n <ℤ t.0)
