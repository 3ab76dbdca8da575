-- How many fires were missed, and which.
use Rattle.std.specs.Prelude.{List, [], ◌∷◌, Option, Some, None, length, min}
use Rattle.cron_agenda.specs.declared.fire.EntryFire.{EntryFire}
use Rattle.cron_tab_missed.specs.declared.counting.Ends.{Ends}
use Rattle.cron_tab_missed.specs.declared.counting.Missed.{Missed}

-- the last of some fires, of which f is the first
abbrev pub last_of : EntryFire → List EntryFire → EntryFire
last_of f [] = f
last_of f (g ∷ fs) = last_of g fs

-- the first and the last of some fires; none if there are none
abbrev pub ends_of : List EntryFire → Option Ends
ends_of [] = None
ends_of (f ∷ fs) = Some (record { first = f; last = last_of f fs })

-- what is told of these fires: how many there are, at most 2^64 - 1, and the first and the last
abbrev pub missed_of : List EntryFire → Missed
missed_of fs = record { count = min (length fs) 18_446_744_073_709_551_615; ends = ends_of fs }
