use Rattle.std.proofs.Common.{map, sym, ap, ◌∙◌, subst}
use Rattle.jiff.specs.Words.{plain_zone}
use Rattle.cron_tab_fires.specs.Entries.{given, view}
use Rattle.cron_tab_fires.specs.Laws.{AllAscend}
use Rattle.cron_tab_collisions.proofs.TellLemmas.{all_ascend, memory_runs_out}
use Rattle.cron_tab_collisions.proofs.report.report_of.Goals as goal

pub tell_all-requires : goal.tell_all-requires
tell_all-requires c =
    subst AllAscend (sym (ap (map view) c.as_slice.ensures.value ∙ c.in_ok-entries.ensures.ok))
    (all_ascend (given (map plain_zone c.args.zones.now) c.args.asked.now) c.args.files.now)

pub returns-clause-err : goal.returns-clause-err
returns-clause-err c = memory_runs_out (given (map plain_zone c.args.zones.now) c.args.asked.now) c.args.files.now
