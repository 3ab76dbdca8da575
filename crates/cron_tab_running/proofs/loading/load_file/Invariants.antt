use Rattle.std.proofs.Common.{map}
use Rattle.jiff.specs.Words.{plain_zone}
use Rattle.cron_shell.specs.Lines.{variable_view}
use Rattle.cron_tab_tasks.specs.Tasks.{orders_view, tasks_below}
use Rattle.cron_tab_running.specs.Noted.{AreLeft, noted_view}
use Rattle.cron_tab_running.specs.Loading.{AddsTasks, State, file_tasks, given, state_of}
use Rattle.cron_tab_running.proofs.loading.load_file.Given as goal

-- what the lines that are left add makes what all of them add
abbrev pub invariant-loop-line : goal.invariant-loop-line
invariant-loop-line l = record {
  adds : (after : State)
      → AddsTasks (given l.orders (map plain_zone l.start.zones.now) l.start.instant.nanosecond (noted_view l.start.noted.now))
      (tasks_below (orders_view l.orders.tasks) l.here (map variable_view l.variables.items) l.line-iterator) (state_of l.loaded) after
      → AddsTasks (given l.orders (map plain_zone l.start.zones.now) l.start.instant.nanosecond (noted_view l.start.noted.now)) (file_tasks l.orders l.file) (state_of l.initial.loaded) after;
  left : AreLeft (noted_view l.start.noted.now).entries (map (λ e. e.items) l.loaded.known.items) l.counts;
}
