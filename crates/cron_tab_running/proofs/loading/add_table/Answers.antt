use Rattle.std.proofs.Common.{inl, refl, subst, map}
use Rattle.std.specs.Prelude.{Ok}
use Rattle.jiff.specs.Words.{plain_zone}
use Rattle.cron_tab_running.specs.Noted.{noted_view}
use Rattle.cron_tab_running.specs.Loading.{AddsTable, given}
use Rattle.cron_tab_running.proofs.loading.add_table.Goals as goal

pub returns-in-Ok : goal.returns-in-Ok
returns-in-Ok c =
    let g = given c.args.orders.now (map plain_zone c.args.start.now.zones.now) c.args.start.now.instant.nanosecond (noted_view c.args.start.now.noted.now) in
    let adds = subst (λ changes. AddsTable g c.args.after.nanosecond c.args.zone changes c.args.table c.args.loaded.now.agenda (Ok c.in-Ok.field-0) c.add.new.self) c.changes_of-changes.ensures c.in-Ok.ensures in
    record { adds = (refl, inl (c.in-Ok.field-0, adds, c.in_ok-push_text-in-Ok.ensures, refl)); err = tt }
