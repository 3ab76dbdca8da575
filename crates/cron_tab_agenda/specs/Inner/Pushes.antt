-- The next fire, taken from an agenda and appended to a list.
use Rattle.std.specs.Prelude.{◌≡◌, ◌++◌, ℤ, Bool, true, false, List, [], ◌∷◌, None, Result, Ok, Err}
use Rattle.jiff_tz.specs.declared.timezone.TimeZone.{TimeZone}
use Rattle.cron_agenda.specs.Entries.{Listed, TakesDue}
use Rattle.cron_tab_agenda.specs.Listing.{IsTabTaken}
use Rattle.cron_tab_agenda.specs.Tabs.{set_of}
use Rattle.cron_tab_agenda.specs.declared.error.ListError.{ListError}
use Rattle.cron_tab_agenda.specs.declared.error.ListError.TheVariants.{Zone, OutOfMemory}
use Rattle.cron_tab_agenda.specs.declared.listing.TabFire.{TabFire}
use Rattle.cron_tab_agenda.specs.declared.tab_entry.TabEntry.{TabEntry}

-- The next fire was taken and appended; or nothing changed. Then none is due, or its zone isn't
-- among the zones, or memory ran out.
abbrev pub IsPushed : List TimeZone → ℤ → Listed TabEntry → List TabFire → Result Bool ListError → List TabFire → Listed TabEntry → Type 0
IsPushed zones t old before (Ok true) after new = (fire : TabFire) × IsTabTaken zones t old fire new × (after ≡ before ++ fire ∷ [])
IsPushed zones t old before (Ok false) after new = TakesDue set_of zones t old (Ok None) new × (after ≡ before)
IsPushed zones t old before (Err (Zone why)) after new = TakesDue set_of zones t old (Err why) new × (after ≡ before)
IsPushed zones t old before (Err OutOfMemory) after new = (new ≡ old) × (after ≡ before)
