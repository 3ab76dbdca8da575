-- The zone that entries fire in: the last `CRON_TZ` above them names it.
use Rattle.std.specs.Prelude.{ℕ, Bool, false, List, [], ◌∷◌, Option, Some, None, Result, Ok, codes, if◌then◌else◌}
use Rattle.std.specs.Option.{is_none}
use Rattle.std.specs.Str.{bytes_eq}
use Rattle.cron_tab_lines.specs.Lines.{Meaning, zone}
use Rattle.cron_tab_lines.specs.Refusals.{Refusal}
use Rattle.cron_tab_lines.specs.declared.zones.NamedZone.{NamedZone}

-- the number of the zone with this name: the first that has it
abbrev pub zone_named : List NamedZone → List ℕ → Option ℕ
zone_named [] value = None
zone_named (n ∷ ns) value = if bytes_eq n.name.now value then Some n.zone else zone_named ns value

-- the zone of the entries below a line: the one that the line names if it sets `CRON_TZ`, else the
-- zone above it
abbrev pub zone_below : List NamedZone → Option ℕ → Result Meaning Refusal → Option ℕ
zone_below names above (Ok (zone value)) = zone_named names value
zone_below names above _ = above

-- the line sets `CRON_TZ` to a text that is none of these names
abbrev pub names_no_zone : List NamedZone → Result Meaning Refusal → Bool
names_no_zone names (Ok (zone value)) = is_none (zone_named names value)
names_no_zone names _ = false

-- the message about a `CRON_TZ` that names no zone
abbrev pub no_zone_text : List ℕ
no_zone_text = codes "CRON_TZ names no zone, and the entries below it are left out"
