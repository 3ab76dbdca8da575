-- What an error prints.
use Rattle.std.specs.Prelude.{◌++◌, ℕ, List, codes, string_bytes}
use Rattle.cron_zones.specs.declared.error.ZoneError.{ZoneError}
use Rattle.cron_zones.specs.declared.error.ZoneError.TheVariants.{NoZone, Unread, NoZoneFile, OutOfMemory}

abbrev pub zone_error_text : ZoneError → List ℕ
zone_error_text NoZone = codes "it is neither UTC, nor local, nor a rule, nor a name"
zone_error_text (Unread path kind) = codes "no file can be read at " ++ string_bytes path
zone_error_text (NoZoneFile path) = codes "no compiled zone file is at " ++ string_bytes path
zone_error_text OutOfMemory = codes "out of memory"
