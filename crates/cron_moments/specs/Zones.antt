-- The texts that name zones.
use Rattle.std.specs.Prelude.{◌≡◌, ◌⊎◌, ℕ, List, codes, IsSome}
use Rattle.jiff.specs.Placed.{IsPosixZone}
use Rattle.jiff_tz.specs.PosixReader.{read_whole}
use Rattle.jiff_tz.specs.declared.timezone.TimeZone.{TimeZone}
use Rattle.jiff_tz.specs.declared.timezone.TimeZone.TheVariants.{UTC}

-- `UTC`, or the text of a rule
abbrev pub NamesZone : List ℕ → Type 0
NamesZone text = (text ≡ codes "UTC") ⊎ IsSome (read_whole text)

-- the zone that the text names
abbrev pub IsZoneOf : List ℕ → TimeZone → Type 0
IsZoneOf text zone = ((text ≡ codes "UTC") × (zone ≡ UTC)) ⊎ IsPosixZone text zone
