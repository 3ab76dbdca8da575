use Rattle.std.proofs.Common.{inr, refl, subst}
use Rattle.std.specs.Prelude.{Ok, Err, Some, None, List}
use Rattle.cron_printing.specs.Printing.{writer_calls}
use Rattle.cron_scheduler.specs.Runs.{clock_calls}
use Rattle.cron_tab_running.specs.Clocks.{Shows, Waits}
use Rattle.cron_tab_running.specs.Looks.{RunsFound}
use Rattle.cron_tab_running.specs.Noted.{noted_view}
use Rattle.cron_tab_running.specs.declared.crontabs.Tab.{Tab}
use Rattle.cron_tab_running.specs.declared.orders.RunOrders.{RunOrders}
use Rattle.cron_tab_running.proofs.following.run_round.Goals as goal

pub returns-in-Ok-Some : goal.returns-in-Ok-Some
returns-in-Ok-Some g c =
    let found = λ (o : RunOrders) (tabs : List Tab). RunsFound (clock_calls (Shows g.C.AlarmClock.shows) (Waits g.C.AlarmClock.shows g.C.AlarmClock.waits g.F.Changing.changes g.S.Store.does)) g.S.Store.does
    (writer_calls g.W.Watchable.writes g.W.Watchable.flushes g.W.Write.contents) (writer_calls g.E.Watchable.writes g.E.Watchable.flushes g.E.Write.contents)
    o tabs (noted_view c.args.on.now) c.args.since (c.look.new.clock, c.args.writer.now, c.args.complaints.now) c.run_found-ran.result (c.run_found-ran.new.clock, c.run_found-ran.new.writer, c.run_found-ran.new.complaints) in
    let runs = subst (λ o. found o c.in-Ok.tabs.items) c.orders_at-here.ensures (subst (λ tabs. found c.orders_at-here.result tabs) c.as_slice.ensures.value c.run_found-ran.ensures) in
    let after = rw c.in-Ok-Some.field-0-is at c.in-Ok-Some.ensures in
    inr (
      c.in-Ok.tabs,
      c.look.new.clock,
      c.run_found-ran.result,
      (c.run_found-ran.new.clock, c.run_found-ran.new.writer, c.run_found-ran.new.complaints),
      Ok (Some c.in-Ok-Some.stayed),
      (c.after_run.new.clock, c.after_run.new.complaints),
      c.in-Ok.ensures,
      runs,
      after,
      (record { noted = c.let_go.result; stayed = c.in-Ok-Some.stayed }, c.let_go.ensures, refl, refl),
      refl,
      refl,
    )

pub returns-in-Ok-None : goal.returns-in-Ok-None
returns-in-Ok-None g c =
    let found = λ (o : RunOrders) (tabs : List Tab). RunsFound (clock_calls (Shows g.C.AlarmClock.shows) (Waits g.C.AlarmClock.shows g.C.AlarmClock.waits g.F.Changing.changes g.S.Store.does)) g.S.Store.does
    (writer_calls g.W.Watchable.writes g.W.Watchable.flushes g.W.Write.contents) (writer_calls g.E.Watchable.writes g.E.Watchable.flushes g.E.Write.contents)
    o tabs (noted_view c.args.on.now) c.args.since (c.look.new.clock, c.args.writer.now, c.args.complaints.now) c.run_found-ran.result (c.run_found-ran.new.clock, c.run_found-ran.new.writer, c.run_found-ran.new.complaints) in
    let runs = subst (λ o. found o c.in-Ok.tabs.items) c.orders_at-here.ensures (subst (λ tabs. found c.orders_at-here.result tabs) c.as_slice.ensures.value c.run_found-ran.ensures) in
    let after = rw c.in-Ok-None.field-0-is at c.in-Ok-None.ensures in
    inr (
      c.in-Ok.tabs,
      c.look.new.clock,
      c.run_found-ran.result,
      (c.run_found-ran.new.clock, c.run_found-ran.new.writer, c.run_found-ran.new.complaints),
      Ok None,
      (c.after_run.new.clock, c.after_run.new.complaints),
      c.in-Ok.ensures,
      runs,
      after,
      (refl, refl),
      refl,
      refl,
    )

pub returns : goal.returns
returns g c =
    let found = λ (o : RunOrders) (tabs : List Tab). RunsFound (clock_calls (Shows g.C.AlarmClock.shows) (Waits g.C.AlarmClock.shows g.C.AlarmClock.waits g.F.Changing.changes g.S.Store.does)) g.S.Store.does
    (writer_calls g.W.Watchable.writes g.W.Watchable.flushes g.W.Write.contents) (writer_calls g.E.Watchable.writes g.E.Watchable.flushes g.E.Write.contents)
    o tabs (noted_view c.args.on.now) c.args.since (c.look.new.clock, c.args.writer.now, c.args.complaints.now) c.run_found-ran.result (c.run_found-ran.new.clock, c.run_found-ran.new.writer, c.run_found-ran.new.complaints) in
    let runs = subst (λ o. found o c.in-Ok.tabs.items) c.orders_at-here.ensures (subst (λ tabs. found c.orders_at-here.result tabs) c.as_slice.ensures.value c.run_found-ran.ensures) in
    inr (
      c.in-Ok.tabs,
      c.look.new.clock,
      c.run_found-ran.result,
      (c.run_found-ran.new.clock, c.run_found-ran.new.writer, c.run_found-ran.new.complaints),
      Err c.in-Err-after_run.why,
      (c.after_run.new.clock, c.after_run.new.complaints),
      c.in-Ok.ensures,
      runs,
      c.in-Err-after_run.ensures,
      (refl, refl),
      refl,
      refl,
    )
