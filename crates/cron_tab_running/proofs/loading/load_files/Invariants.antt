use Rattle.std.proofs.Common.{drop, map}
use Rattle.jiff.specs.Words.{plain_zone}
use Rattle.cron_tab_running.specs.Noted.{AreLeft, noted_view}
use Rattle.cron_tab_running.specs.Loading.{AddsTasks, State, files_tasks, given, state_of}
use Rattle.cron_tab_running.proofs.loading.load_files.Given as goal

-- what the crontabs that are left add makes what all of them add
abbrev pub invariant-loop-file : goal.invariant-loop-file
invariant-loop-file l = record {
  adds : (after : State)
      → AddsTasks (given l.orders (map plain_zone l.start.zones.now) l.start.instant.nanosecond (noted_view l.start.noted.now)) (files_tasks l.orders (drop l.file-index l.files)) (state_of l.loaded) after
      → AddsTasks (given l.orders (map plain_zone l.start.zones.now) l.start.instant.nanosecond (noted_view l.start.noted.now)) (files_tasks l.orders l.files) (state_of l.initial.loaded) after;
  left : AreLeft (noted_view l.start.noted.now).entries (map (λ e. e.items) l.loaded.known.items) l.counts;
}
