-- What a counted search looks into, and its counts.
use Rattle.std.specs.Prelude.{◌≡◌, ℕ, ◌+◌}
use Rattle.jiff_tz.specs.declared.timezone.TimeZone.{TimeZone}
use Rattle.cron_units.specs.Sets.{Sets}

-- the sets and the zone of a search, how many dates were made and tested, and how often readings
-- were looked up
pub record Inquired : Type 0 where
  pub sets : Sets
  pub zone : TimeZone
  pub days : ℕ
  pub conversions : ℕ

-- no date was made and no reading looked up yet
abbrev pub unasked : Sets → TimeZone → Inquired
unasked s z = record { sets = s; zone = z; days = 0; conversions = 0 }

-- one more date was made
abbrev pub one_day : Inquired → Inquired
one_day q = record { sets = q.sets; zone = q.zone; days = q.days + 1; conversions = q.conversions }

-- one more look-up of readings
abbrev pub one_conversion : Inquired → Inquired
one_conversion q = record { sets = q.sets; zone = q.zone; days = q.days; conversions = q.conversions + 1 }

-- the sets and the zone stay the same
pub record IsSame (old new : Inquired) : Type 0 where
  pub sets : new.sets ≡ old.sets
  pub zone : new.zone ≡ old.zone
