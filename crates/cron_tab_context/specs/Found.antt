-- All that was found in a crontab by what is around its entries.
use Rattle.std.specs.Prelude.{◌≡◌, ◌++◌, ℕ, List, [], ◌∷◌, Option, Some, None, map}
use Rattle.jiff_tz.specs.declared.timezone.TimeZone.{TimeZone}
use Rattle.cron_tab_lines.specs.Files.{FileLine}
use Rattle.cron_tab_comparing.specs.Entries.{entries_in}
use Rattle.cron_tab_comparing.specs.Twins.{AreTwinsOf}
use Rattle.cron_tab_comparing.specs.declared.twins.Twin.{Twin}
use Rattle.cron_tab_context.specs.Systems.{system_line}
use Rattle.cron_tab_context.specs.Times.{AreTimes}
use Rattle.cron_tab_context.specs.declared.found.Found.{Found}
use Rattle.cron_tab_context.specs.declared.found.ContextWarning.TheVariants as warnings
use Rattle.cron_tab_context.specs.declared.listing.Asked.{Asked}

abbrev pub found_system : Option ℕ → List Found
found_system None = []
found_system (Some line) = record { line = line; warning = warnings.SystemCrontab } ∷ []

abbrev pub found_twin : Twin → Found
found_twin twin = record { line = twin.line; warning = warnings.Twin twin.above }

-- what was found: that the file is the system's, what the clock does with the entries, and which
-- entries have a twin above them
pub record IsFound (a : Asked) (zones : List TimeZone) (lines : List FileLine) (found : List Found) : Type 0 where
  pub times : List Found
  pub twins : List Twin
  pub all : found ≡ found_system (system_line a.kind a.path.now lines) ++ (times ++ map found_twin twins)
  pub are_times : AreTimes zones a.names.now a.start.nanosecond (Some 0) lines times
  pub are_twins : AreTwinsOf [] (entries_in [] lines) twins
