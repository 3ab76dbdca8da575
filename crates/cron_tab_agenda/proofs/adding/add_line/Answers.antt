use Rattle.std.proofs.Common.{inr, map, subst}
use Rattle.std.specs.Prelude.{Ok}
use Rattle.jiff.specs.Words.{plain_zone}
use Rattle.cron_tab_agenda.specs.Adding.{AddsTab, start_of}
use Rattle.cron_tab_agenda.proofs.adding.add_line.Goals as goal

pub returns-in-Ok : goal.returns-in-Ok
returns-in-Ok c =
    let adds = subst (λ changes. AddsTab (start_of (map plain_zone c.args.zones.now) c.args.zone c.args.clock c.args.start.nanosecond) changes c.in-Some.table
    c.args.agenda.now (Ok c.in-Ok.id) c.add.new.self) c.changes_of-changes.ensures c.in-Ok.ensures in
    inr (c.in-Some.table, c.in-Some.ensures, adds)
