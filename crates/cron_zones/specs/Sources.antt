-- What a text names.
use Rattle.std.specs.Prelude.{◌≡◌, ◌⊎◌, ◌==◌, ℕ, Bool, true, false, Option, Some, None, List, [], codes, ◌∷◌, drop}
use Rattle.jiff.specs.Words.{plain_zone}
use Rattle.jiff_tz.specs.declared.timezone.TimeZone.TheVariants.{UTC}
use Rattle.cron_moments.specs.Zones.{NamesZone, IsZoneOf}
use Rattle.cron_zones.specs.Names.{is_zone_name}
use Rattle.cron_zones.specs.declared.source.Source.{Source}
use Rattle.cron_zones.specs.declared.source.Source.TheVariants.{Stated, Named, At, Machine}

-- What a text names without TZ: `UTC` or a rule text is a zone, else a name is its file, else it
-- names nothing.
abbrev pub IsStated : List ℕ → Option Source → Type 0
IsStated text (Some (Stated zone)) = IsZoneOf text (plain_zone zone)
IsStated text (Some (Named name)) = (NamesZone text → ⊥) × (is_zone_name text ≡ true) × (name.now ≡ text)
IsStated text (Some (At path)) = ⊥
IsStated text (Some Machine) = ⊥
IsStated text None = (NamesZone text → ⊥) × (is_zone_name text ≡ false)

abbrev pub IsUtc : Option Source → Type 0
IsUtc (Some (Stated zone)) = plain_zone zone ≡ UTC
IsUtc source = ⊥

abbrev pub IsAt : List ℕ → Option Source → Type 0
IsAt path (Some (At at)) = at.now ≡ path
IsAt path source = ⊥

-- What TZ names without a colon. An empty TZ is UTC.
abbrev pub IsTold : List ℕ → Option Source → Type 0
IsTold text source = ((text ≡ []) × IsUtc source) ⊎ ((text ≡ [] → ⊥) × IsStated text source)

abbrev pub begins_with : ℕ → List ℕ → Bool
begins_with byte [] = false
begins_with byte (b ∷ bs) = b == byte

-- What TZ names if it begins with a colon; `text` is the rest, which may be an absolute path.
abbrev pub IsBehindColon : List ℕ → Option Source → Type 0
IsBehindColon text source =
    ((begins_with 47 text ≡ true) × IsAt text source) ⊎ ((begins_with 47 text ≡ false) × IsTold text source)

-- What TZ names, with or without a colon.
abbrev pub IsVariable : List ℕ → Option Source → Type 0
IsVariable tz source =
    ((begins_with 58 tz ≡ true) × IsBehindColon (drop 1 tz) source) ⊎ ((begins_with 58 tz ≡ false) × IsTold tz source)

-- What `local` names: what TZ names, or without TZ the machine's own file.
abbrev pub IsLocal : Option (List ℕ) → Option Source → Type 0
IsLocal None source = source ≡ Some Machine
IsLocal (Some tz) source = IsVariable tz source

-- What a text names: `local` is what TZ names, and any other text is read without TZ.
abbrev pub IsSource : List ℕ → Option (List ℕ) → Option Source → Type 0
IsSource text tz source = ((text ≡ codes "local") × IsLocal tz source) ⊎ ((text ≡ codes "local" → ⊥) × IsStated text source)
