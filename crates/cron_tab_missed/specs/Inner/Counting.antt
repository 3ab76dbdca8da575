-- Missed fires with one more.
use Rattle.std.specs.Prelude.{◌+◌, List, [], ◌∷◌, Option, Some, None, min}
use Rattle.cron_agenda.specs.declared.fire.EntryFire.{EntryFire}
use Rattle.cron_tab_missed.specs.declared.counting.Ends.{Ends}
use Rattle.cron_tab_missed.specs.declared.counting.Missed.{Missed}

abbrev pub first_of : Option Ends → EntryFire → EntryFire
first_of None f = f
first_of (Some e) f = e.first

abbrev pub with_fire : Missed → EntryFire → Missed
with_fire m f = record { count = min (m.count + 1) 18_446_744_073_709_551_615; ends = Some (record { first = first_of m.ends f; last = f }) }

abbrev pub with_fires : Missed → List EntryFire → Missed
with_fires m [] = m
with_fires m (f ∷ fs) = with_fires (with_fire m f) fs
