-- The zones of calendars.
use Rattle.std.specs.Prelude.{◌≡◌, ◌⊎◌, ℕ, ◌==◌, ◌||◌, Bool, List, [], ◌∷◌, Option, Some, None, Result, Ok, Err, codes, if◌then◌else◌}
use Rattle.std.specs.Char.{is_ascii_alphanumeric}
use Rattle.std.specs.List.{list_all}
use Rattle.std.specs.Str.{IsUtf8, bytes_eq}
use Rattle.cron_zones.specs.Sources.{IsVariable}
use Rattle.cron_zones.specs.declared.source.Source.{Source}
use Rattle.cron_zones.specs.declared.source.Source.TheVariants.{Named, Stated}
use Rattle.cron_tab_systemd.specs.declared.made.Unsaid.{Unsaid}
use Rattle.cron_tab_systemd.specs.declared.made.Unsaid.TheVariants.{Zone}

-- whether a zone's name in `OnCalendar` may hold the byte: systemd takes no dot there
abbrev pub is_zone_byte : ℕ → Bool
is_zone_byte c = is_ascii_alphanumeric c || (c == 43) || (c == 45) || (c == 47) || (c == 95)

abbrev pub is_utc : List ℕ → Bool
is_utc text = bytes_eq text (codes "UTC") || bytes_eq text (codes ":UTC")

-- the word of `OnCalendar` for what a text names: UTC, or a name
abbrev pub word_of : List ℕ → Option Source → Option (List ℕ)
word_of text (Some (Named name)) = if list_all is_zone_byte name.now then Some name.now else None
word_of text (Some (Stated zone)) = if is_utc text then Some (codes "UTC") else None
word_of text _ = None

-- the text, read as a value of TZ, names what has this word
abbrev pub IsWordOf : List ℕ → Option (List ℕ) → Type 0
IsWordOf text word = (source : Option Source) × IsVariable text source × (word ≡ word_of text source)

abbrev pub unsaid_zone : Unsaid
unsaid_zone = Zone

abbrev pub said_by : Option (List ℕ) → Result (Option (List ℕ)) Unsaid
said_by (Some word) = Ok (Some word)
said_by None = Err Zone

-- The zone for the calendar of an entry below a `CRON_TZ` with this value. An empty value means the
-- zone that is asked.
abbrev pub IsZoneOf : Option (List ℕ) → List ℕ → Result (Option (List ℕ)) Unsaid → Type 0
IsZoneOf asked [] zone = zone ≡ Ok asked
IsZoneOf asked (c ∷ cs) zone =
    ((word : Option (List ℕ)) × IsWordOf (c ∷ cs) word × (zone ≡ said_by word)) ⊎ ((IsUtf8 (c ∷ cs) → ⊥) × (zone ≡ Err Zone))
