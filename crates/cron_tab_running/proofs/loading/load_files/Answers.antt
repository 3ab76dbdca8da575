use Rattle.std.proofs.Common.{sym, subst, map}
use Rattle.std.proofs.lemmas.List.{drop_more}
use Rattle.jiff.specs.Words.{plain_zone}
use Rattle.cron_tab_running.specs.Noted.{noted_view}
use Rattle.cron_tab_running.specs.Loading.{AddsTasks, files_tasks, given, state_of}
use Rattle.cron_tab_running.proofs.LoadLemmas.{adds-append}
use Rattle.cron_tab_running.proofs.loading.load_files.Goals as goal

pub loop-file-preserved : goal.loop-file-preserved
loop-file-preserved c = record {
  left = c.in_ok-load_file.ensures.left;
  adds = λ after more.
      let g = given c.args.orders.now (map plain_zone c.args.start.now.zones.now) c.args.start.now.instant.nanosecond (noted_view c.args.start.now.noted.now) in
      let files = c.args.files.now in
      let one = c.in_ok-load_file.ensures.adds in
      c.loop-file.invariant.adds after
      (subst (λ fs. AddsTasks g (files_tasks c.args.orders.now fs) (state_of c.loop-file.loaded) after)
      (sym (drop_more files c.loop-file.file-index _ c.loop-file-test.true))
      (adds-append g _ _ _ _ after one more));
}
