-- The numbers of statuses, as the header names them, and of versions.
use Rattle.std.specs.Prelude.{ℕ, ◌+◌, ◌*◌}
use Rattle.cron_c.specs.declared.status.Status.{Status}
use Rattle.cron_c.specs.declared.status.Status.TheVariants.{Done, NoItem, Refused, NotUtf8, BadZone, BadInstant, NotAnItem, Untold, More, NoMemory}

abbrev pub code_of : Status → ℕ
code_of Done = 0
code_of NoItem = 1
code_of Refused = 2
code_of NotUtf8 = 3
code_of BadZone = 4
code_of BadInstant = 5
code_of NotAnItem = 6
code_of Untold = 7
code_of More = 8
code_of NoMemory = 9

abbrev pub version_number : ℕ → ℕ → ℕ → ℕ
version_number major minor patch = major * 10_000 + minor * 100 + patch
