-- Where the zone of a text is found.
use Rattle.std.specs.Prelude.{◌≡◌, ◌==◌, ℕ, List, Option, Some, None, length, if◌then◌else◌}
use Rattle.std.specs.Str.{IsUtf8}
use Rattle.jiff.specs.Words.{plain_zone}
use Rattle.cron_zones.specs.Sources.{IsSource}
use Rattle.cron_zones.specs.declared.source.Source.{Source}
use Rattle.cron_zones.specs.declared.source.Source.TheVariants.{Stated, Named, At, Machine}
use Rattle.cron_c.specs.Buffers.{laid_over}
use Rattle.cron_c.specs.Zones.{IsOther, IsZoneStruct}
use Rattle.cron_c.specs.declared.status.Status.{Status}
use Rattle.cron_c.specs.declared.status.Status.TheVariants.{Done, NotUtf8, BadZone}
use Rattle.cron_c.specs.declared.zone.CronZone.{CronZone}

-- what TZ holds, if a number other than 0 says that it is set
abbrev pub tz_told : ℕ → List ℕ → Option (List ℕ)
tz_told is_set tz = if is_set == 0 then None else Some tz

abbrev pub IsText : Option (List ℕ) → Type 0
IsText None = Unit {0}
IsText (Some tz) = IsUtf8 tz

-- The number `place` says where a zone is found. 0 is in the struct, and 1 in the file of this name
-- in the folder of zone files. 2 is in the file at this path, and 3 in the machine's own file. The
-- name or the path is laid over a buffer, and `size` is its whole length.
abbrev pub WritesSource : Source → CronZone → CronZone → ℕ → List ℕ → List ℕ → ℕ → Type 0
WritesSource (Stated zone) old new place before after size = IsZoneStruct new (plain_zone zone) × (place ≡ 0) × (after ≡ before) × (size ≡ 0)
WritesSource (Named name) old new place before after size =
    (new ≡ old) × (place ≡ 1) × (after ≡ laid_over 0 name.now before) × (size ≡ length name.now)
WritesSource (At path) old new place before after size =
    (new ≡ old) × (place ≡ 2) × (after ≡ laid_over 0 path.now before) × (size ≡ length path.now)
WritesSource Machine old new place before after size = (new ≡ old) × (place ≡ 3) × (after ≡ before) × (size ≡ 0)

-- a zone that needs no file is UTC or a rule
abbrev pub IsUtcOrRule : Option Source → Type 0
IsUtcOrRule (Some (Stated zone)) = IsOther (plain_zone zone) → ⊥
IsUtcOrRule source = Unit {0}

-- what is written for a source; without one the text names no zone, and nothing is written
abbrev pub TellsSource : Option Source → CronZone → CronZone → ℕ → ℕ → List ℕ → List ℕ → ℕ → Status → Type 0
TellsSource (Some source) old new was place before after size Done = WritesSource source old new place before after size
TellsSource None old new was place before after size BadZone = (new ≡ old) × (place ≡ was) × (after ≡ before) × (size ≡ 0)
TellsSource _ old new was place before after size _ = ⊥

-- What each status of `cron_c_zone_source` means. Where the zone of a text is found is written; or
-- the text, or what TZ holds, names none, or isn't UTF-8.
abbrev pub FindsSource : List ℕ → Option (List ℕ) → CronZone → CronZone → ℕ → ℕ → List ℕ → List ℕ → ℕ → Status → Type 0
FindsSource text tz old new was place before after size NotUtf8 =
    (IsUtf8 text → IsText tz → ⊥) × (new ≡ old) × (place ≡ was) × (after ≡ before) × (size ≡ 0)
FindsSource text tz old new was place before after size status =
    (source : Option Source) × IsUtf8 text × IsText tz × IsSource text tz source
    × TellsSource source old new was place before after size status
