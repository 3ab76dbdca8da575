use Rattle.std.proofs.Common.{◌≡◌, ◌++◌, List, length, map}
use Rattle.jiff.specs.Words.{plain_zone}
use Rattle.cron_tab_agenda.specs.Listing.{AreTaken}
use Rattle.cron_tab_agenda.specs.declared.listing.TabFire.{TabFire}
use Rattle.cron_tab_agenda.proofs.listing.list_fires.Given as goal

-- so many were taken, and put behind the others
abbrev pub invariant-loop : goal.invariant-loop
invariant-loop l =
    (more : List TabFire) × (length more ≡ l.counter) × (l.fires.items ≡ l.initial.fires.items ++ more)
    × AreTaken (map plain_zone l.zones) l.until.nanosecond l.initial.agenda more l.agenda
