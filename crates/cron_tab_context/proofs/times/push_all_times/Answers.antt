use Rattle.std.proofs.Common.{map}
use Rattle.jiff.specs.Words.{plain_zone}
use Rattle.cron_tab_lines.specs.Views.{file_line_view}
use Rattle.cron_tab_context.proofs.TimeLemmas.{times_all, times_on}
use Rattle.cron_tab_context.proofs.times.push_all_times.Goals as goal

pub loop-line-preserved : goal.loop-line-preserved
loop-line-preserved c =
    times_on (map plain_zone c.args.zones.now) c.args.names.now c.args.start.nanosecond _ _ _ _ _ (file_line_view c.in-Some.line) _ _ _ c.loop-line.invariant
    c.in-Some.ensures.steps c.zone_below-here.ensures c.in_ok-push_times_in.ensures

pub returns : goal.returns
returns c =
    times_all (map plain_zone c.args.zones.now) c.args.names.now c.args.start.nanosecond c.args.lines _ _ _ _ c.loop-line.invariant c.in-None.ensures.steps.0
