use Rattle.std.proofs.Common.{◌∙◌, sym}
use Rattle.cron_tab_warnings.proofs.WordLemmas.{none-lacks}
use Rattle.cron_tab_warnings.proofs.days.some_lacks.Goals as goal

pub loop-before-preserved : goal.loop-before-preserved
loop-before-preserved c =
    none-lacks c.args.months.now c.args.day c.loop-before.before c.loop-before.invariant (sym c.lacks.ensures ∙ c.if-lacks.false)
