use Rattle.std.proofs.Common.{◌≡◌, ℕ, List, length, map}
use Rattle.jiff.specs.Words.{plain_zone}
use Rattle.cron_checking.specs.Puts.{Puts}
use Rattle.cron_tab_agenda.specs.Listing.{AreTaken}
use Rattle.cron_tab_agenda.specs.declared.listing.TabFire.{TabFire}
use Rattle.cron_tab_answers.specs.TabRows.{AreRows}
use Rattle.cron_tab_answers.proofs.tabs.gather_tabs.Given as goal

-- so many fires were taken, and their rows gathered
abbrev pub invariant-loop : goal.invariant-loop
invariant-loop g l =
    (fires : List TabFire) × (report : List ℕ) × (length fires ≡ l.counter)
    × AreTaken (map plain_zone l.zones) l.until.nanosecond l.initial.agenda fires l.agenda × AreRows l.style l.sources fires report
    × Puts g.W.Write.contents g.W.Watchable.writes l.initial.gathered l.initial.out l.gathered l.out report
