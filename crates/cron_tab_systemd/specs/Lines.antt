-- What is made of the lines of a crontab.
use Rattle.std.specs.Prelude.{◌≡◌, ◌⊎◌, ◌∷◌, ◌++◌, ℕ, ℤ, Bool, List, [], Option, Some, None, Result, Ok}
use Rattle.std.specs.Option.{option_map}
use Rattle.jiff_tz.specs.declared.timezone.TimeZone.{TimeZone}
use Rattle.cron_tab_context.specs.Times.{zone_at}
use Rattle.cron_tab_lines.specs.Entries.{Entry}
use Rattle.cron_tab_lines.specs.Files.{FileLine}
use Rattle.cron_tab_lines.specs.Lines.{Meaning, entry}
use Rattle.cron_tab_lines.specs.Refusals.{Refusal}
use Rattle.cron_tab_lines.specs.Zones.{zone_below}
use Rattle.cron_tab_lines.specs.declared.zones.NamedZone.{NamedZone}
use Rattle.cron_tab_tasks.specs.Tasks.{variables_in}
use Rattle.cron_tab_systemd.specs.Entries.{AreUnits, IsUnitsFault, IsWritten, left_out}
use Rattle.cron_tab_systemd.specs.declared.entries.Asked.{Asked}
use Rattle.cron_tab_systemd.specs.declared.made.Fault.TheVariants.{Unsaid as Says}
use Rattle.cron_tab_systemd.specs.declared.made.LineMade.{LineMade}
use Rattle.cron_tab_systemd.specs.declared.made.Units.{Units}
use Rattle.cron_tab_systemd.specs.declared.made.Unsaid.{Unsaid}

-- what is asked: the zone of entries without `CRON_TZ`, the zones that it may name, whether missed
-- times count, and the instant from which a year is looked at, in nanoseconds since 1970
pub record Given : Type 0 where
  pub zone : Option (List ℕ)
  pub names : List NamedZone
  pub persistent : Bool
  pub start : ℤ

abbrev pub given : Asked → Given
given a = record { zone = option_map (λ word. word.now) a.zone; names = a.names.now; persistent = a.persistent; start = a.start.nanosecond }

-- the entry was left out
pub record IsLeftOut (g : Given) (vs : List (List ℕ × List ℕ)) (line : FileLine) (e : Entry) (made : List LineMade) : Type 0 where
  pub why : Unsaid
  pub fault : IsUnitsFault g.zone g.persistent vs e (Says why)
  pub all : made ≡ left_out line.number why ∷ []

-- the entry has units
pub record HasUnits (g : Given) (z : TimeZone) (vs : List (List ℕ × List ℕ)) (line : FileLine) (e : Entry) (made : List LineMade) : Type 0 where
  pub units : Units
  pub are_units : AreUnits g.zone g.persistent vs e units
  pub written : IsWritten units g.start z line made

-- what is made of the entry of a line, below lines that set these variables
abbrev pub IsMadeOfEntry : Given → TimeZone → List (List ℕ × List ℕ) → FileLine → Entry → List LineMade → Type 0
IsMadeOfEntry g z vs line e made = HasUnits g z vs line e made ⊎ IsLeftOut g vs line e made

-- what is made of the entry of a line; nothing if it has no zone
abbrev pub IsMadeIn : Given → Option TimeZone → List (List ℕ × List ℕ) → FileLine → Entry → List LineMade → Type 0
IsMadeIn g None vs line e made = made ≡ []
IsMadeIn g (Some z) vs line e made = IsMadeOfEntry g z vs line e made

abbrev pub IsMadeBy : Given → Option TimeZone → List (List ℕ × List ℕ) → FileLine → Result Meaning Refusal → List LineMade → Type 0
IsMadeBy g there vs line (Ok (entry e)) made = IsMadeIn g there vs line e made
IsMadeBy g there vs line _ made = made ≡ []

-- what is made of a line in a zone; nothing if it is no entry
abbrev pub IsMadeOf : Given → Option TimeZone → List (List ℕ × List ℕ) → FileLine → List LineMade → Type 0
IsMadeOf g there vs line made = IsMadeBy g there vs line line.outcome made

-- What is made of lines, each in the zone of the last `CRON_TZ` above it, and with the variables
-- that the lines above it set; `here` is the zone of the first line.
abbrev pub AreMade : Given → List TimeZone → Option ℕ → List (List ℕ × List ℕ) → List FileLine → List LineMade → Type 0
AreMade g zones here vs [] made = made ≡ []
AreMade g zones here vs (line ∷ lines) made =
    (first : List LineMade) × (rest : List LineMade) × (made ≡ first ++ rest)
    × IsMadeOf g (zone_at zones here) (vs ++ variables_in line.outcome) line first
    × AreMade g zones (zone_below g.names here line.outcome) (vs ++ variables_in line.outcome) lines rest
