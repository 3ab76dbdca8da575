-- A walk's stand: where it is, by what its state keeps.
use Rattle.std.specs.Prelude.{ℤ, Bool}
use Rattle.cron_moments.specs.declared.readings.Found.{Found}

-- at the instant where it started, in nanoseconds since 1970-01-01T00:00:00Z; at a reading of the
-- civil second that was found, the later one if `true`; or at the end
pub data Stand : Type 0 where
  Start : ℤ → Stand
  At : Found → Bool → Stand
  Ended : Stand
