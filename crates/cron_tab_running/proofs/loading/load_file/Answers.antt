use Rattle.std.proofs.Common.{map, sym, subst}
use Rattle.jiff.specs.Words.{plain_zone}
use Rattle.cron_shell.specs.Lines.{variable_view}
use Rattle.cron_tab_lines.specs.Views.{file_line_view}
use Rattle.cron_tab_tasks.specs.Tasks.{orders_view, tasks_below}
use Rattle.cron_tab_running.specs.Noted.{noted_view}
use Rattle.cron_tab_running.specs.Loading.{AddsTasks, given, state_of}
use Rattle.cron_tab_running.proofs.LoadLemmas.{more-lines}
use Rattle.cron_tab_running.proofs.loading.load_file.Goals as goal

pub loop-line-preserved : goal.loop-line-preserved
loop-line-preserved c = record {
  left = c.in_ok-load_line.ensures.left;
  adds = λ after more.
      let g = given c.args.orders.now (map plain_zone c.args.start.now.zones.now) c.args.start.now.instant.nanosecond (noted_view c.args.start.now.noted.now) in
      let o = orders_view c.args.orders.now.tasks in
      let vs = map variable_view c.loop-line.variables.items in
      let more_vs = map variable_view c.load_line.new.variables.items in
      let below = subst (λ h. AddsTasks g (tasks_below o h more_vs c.next.new.self) (state_of c.load_line.new.loaded) after) c.zone_below-here.ensures more in
      let whole = more-lines g o c.loop-line.here vs more_vs (file_line_view c.in-Some.line) c.next.new.self (state_of c.loop-line.loaded) (state_of c.load_line.new.loaded)
      after c.in_ok-load_line.ensures.variables c.in_ok-load_line.ensures.adds below in
      c.loop-line.invariant.adds after
      (subst (λ ls. AddsTasks g (tasks_below o c.loop-line.here vs ls) (state_of c.loop-line.loaded) after) (sym c.in-Some.ensures.steps) whole);
}
