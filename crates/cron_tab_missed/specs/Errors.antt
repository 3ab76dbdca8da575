-- Why it can't be told what entries missed.
use Rattle.std.specs.Prelude.{◌≡◌, ◌⊎◌, ◌++◌, ℕ, List, [], ◌∷◌, Option, Some, None, ⊤, codes, slice_get}
use Rattle.std.specs.Fmt.{decimal}
use Rattle.cron_tab_agenda.specs.declared.tab_file.TabFile.{TabFile}
use Rattle.cron_tab_lines.specs.Files.{FileLine, file_lines}
use Rattle.cron_tab_lines.specs.Zones.{zone_below}
use Rattle.cron_tab_missed.specs.Entries.{Given}
use Rattle.cron_tab_missed.specs.declared.error.MissedError.{MissedError}
use Rattle.cron_tab_missed.specs.declared.error.MissedError.TheVariants.{NoZone, OutOfMemory}

abbrev pub missed_error_text : MissedError → List ℕ
missed_error_text (NoZone line) =
    codes "line " ++ (decimal line ++ codes ": its zone is not lent")
missed_error_text OutOfMemory = codes "out of memory"

-- the line has this number, and the zone of its entry isn't among the zones
abbrev pub LacksZone : Given → Option ℕ → FileLine → ℕ → Type 0
LacksZone g None line number = ⊥
LacksZone g (Some zone) line number = (number ≡ line.number) × (slice_get g.zones zone ≡ None)

-- one of the lines, each in the zone of the last `CRON_TZ` above it, lacks its zone
abbrev pub LacksZones : Given → Option ℕ → List FileLine → ℕ → Type 0
LacksZones g here [] number = ⊥
LacksZones g here (line ∷ lines) number = LacksZone g here line number ⊎ LacksZones g (zone_below g.names here line.outcome) lines number

-- why it can't be told what the entry of a line missed, in the zone with the number `here`
abbrev pub IsLineError : Given → Option ℕ → FileLine → MissedError → Type 0
IsLineError g here line (NoZone number) = LacksZone g here line number
IsLineError g here line OutOfMemory = ⊤

-- why it can't be told what the entries of lines missed
abbrev pub IsLinesError : Given → Option ℕ → List FileLine → MissedError → Type 0
IsLinesError g here lines (NoZone number) = LacksZones g here lines number
IsLinesError g here lines OutOfMemory = ⊤

-- why it can't be told what the entries of one of the files missed
abbrev pub IsFilesError : Given → List TabFile → MissedError → Type 0
IsFilesError g [] why = why ≡ OutOfMemory
IsFilesError g (f ∷ files) why = IsLinesError g (Some 0) (file_lines f.kind f.bytes.now) why ⊎ IsFilesError g files why
