use Rattle.std.proofs.Common.{List, map, subst}
use Rattle.jiff.specs.Words.{plain_zone}
use Rattle.cron_shell.specs.Lines.{variable_view}
use Rattle.cron_shell.specs.declared.lines.Variable.{Variable}
use Rattle.cron_tab_context.specs.Inner.{Appends}
use Rattle.cron_tab_context.specs.Times.{zone_at}
use Rattle.cron_tab_lines.specs.Files.{file_lines}
use Rattle.cron_tab_lines.specs.Views.{file_line_view}
use Rattle.cron_tab_systemd.specs.Lines.{IsMadeOf, given}
use Rattle.cron_tab_systemd.proofs.MadeLemmas.{made_all, made_on}
use Rattle.cron_tab_systemd.proofs.entries.list_made.Goals as goal

pub loop-line-preserved : goal.loop-line-preserved
loop-line-preserved c =
    let g = given c.args.asked.now in
    let zones = map plain_zone c.args.zones.now in
    let line = file_line_view c.in-Some.line in
    made_on g zones (file_lines c.args.asked.now.kind c.args.file.now) _ _ _ _ _ _ line _ _ c.loop-line.invariant
    c.in-Some.ensures.steps c.zone_below-here.ensures c.in_ok-push_variable.ensures
    (subst (λ (vs : List Variable). Appends (IsMadeOf g (zone_at zones c.loop-line.here) (map variable_view vs) line) c.loop-line.made.items c.push_line.new.made.items)
    c.as_slice.ensures.value c.in_ok-push_line.ensures)

pub returns : goal.returns
returns c =
    made_all (given c.args.asked.now) (map plain_zone c.args.zones.now) (file_lines c.args.asked.now.kind c.args.file.now) _ _ _ _ c.loop-line.invariant
    c.in-None.ensures.steps.0
