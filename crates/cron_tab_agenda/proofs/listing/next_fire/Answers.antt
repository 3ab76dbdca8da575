use Rattle.std.proofs.Common.{map, subst}
use Rattle.std.specs.Prelude.{Ok}
use Rattle.jiff.specs.Words.{plain_zone}
use Rattle.cron_agenda.specs.Entries.{TakesDue}
use Rattle.cron_tab_agenda.specs.Tabs.{set_of}
use Rattle.cron_tab_agenda.proofs.TakenLemmas.{line-taken}
use Rattle.cron_tab_agenda.proofs.listing.next_fire.Goals as goal

pub returns-in-Ok-Some : goal.returns-in-Ok-Some
returns-in-Ok-Some c =
    let takes = subst (λ o. TakesDue set_of (map plain_zone c.args.zones.now) c.args.until.nanosecond c.args.agenda.now (Ok o) c.next_due.new.self)
    c.in-Ok-Some.field-0-is c.in-Ok-Some.ensures in
    line-taken (map plain_zone c.args.zones.now) c.args.until.nanosecond c.args.agenda.now c.in-Some.first c.in-Ok-Some.taken c.next_due.new.self
    c.line-line.result c.in-Some.ensures c.line-line.ensures takes
