use Rattle.std.proofs.Common.{◌∙◌, FitsSigned, ap, rules, subst, to_z-of_z, w64}
use Rattle.jiff_tz.specs.TzifText.{civil_start}
use Rattle.cron_clocks.specs.Spans.{IsUnparted}
use Rattle.cron_clocks.proofs.TableLemmas.{transition_here}
use Rattle.cron_clocks.proofs.table.up_to_next.Goals as goal

pub returns-clause-next : goal.returns-clause-next
returns-clause-next c l =
    let fits : FitsSigned w64 c.civil_start.result = search rules in
    let same = transition_here c.args.table.now c.transitions-transitions.result.now c.args.count c.index-transitions-count.result c.transitions-transitions.ensures
    c.index-transitions-count.is l in
    subst (IsUnparted c.part.result.first c.part.result.end) (to_z-of_z fits ∙ c.civil_start.ensures ∙ ap civil_start same) c.part.ensures.unparted
