-- Why the fires of entries can't be listed.
use Rattle.std.specs.Prelude.{◌≡◌, ◌⊎◌, ◌++◌, ℕ, List, [], ◌∷◌, Option, Some, None, ⊤, codes, slice_get}
use Rattle.std.specs.Fmt.{decimal}
use Rattle.cron_tab_lines.specs.Files.{FileLine}
use Rattle.cron_tab_lines.specs.Zones.{zone_below}
use Rattle.cron_tab_fires.specs.Entries.{Given}
use Rattle.cron_tab_fires.specs.declared.error.FiresError.{FiresError}
use Rattle.cron_tab_fires.specs.declared.error.FiresError.TheVariants.{NoZone, OutOfMemory}

abbrev pub fires_error_text : FiresError → List ℕ
fires_error_text (NoZone line) = codes "line " ++ (decimal line ++ codes ": its zone is not lent")
fires_error_text OutOfMemory = codes "out of memory"

-- the line has this number, and the zone of its entry isn't among the zones
abbrev pub LacksZone : Given → Option ℕ → FileLine → ℕ → Type 0
LacksZone g None line number = ⊥
LacksZone g (Some zone) line number = (number ≡ line.number) × (slice_get g.zones zone ≡ None)

-- one of the lines, each in the zone of the last `CRON_TZ` above it, has this number, and its zone
-- isn't among the zones
abbrev pub LacksZones : Given → Option ℕ → List FileLine → ℕ → Type 0
LacksZones g here [] number = ⊥
LacksZones g here (line ∷ lines) number = LacksZone g here line number ⊎ LacksZones g (zone_below g.names here line.outcome) lines number

-- why the entry of a line can't be appended, in the zone with the number `here`
abbrev pub IsLineError : Given → Option ℕ → FileLine → FiresError → Type 0
IsLineError g here line (NoZone number) = LacksZone g here line number
IsLineError g here line OutOfMemory = ⊤

-- why the entries of lines can't be appended
abbrev pub IsFiresError : Given → Option ℕ → List FileLine → FiresError → Type 0
IsFiresError g here lines (NoZone number) = LacksZones g here lines number
IsFiresError g here lines OutOfMemory = ⊤
