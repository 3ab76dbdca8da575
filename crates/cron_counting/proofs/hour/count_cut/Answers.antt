use Rattle.std.proofs.Common.{sym, ap, ◌∙◌, ◌≤◌, arith}
use Rattle.cron_counting.specs.Inner.Totals.{ones}
use Rattle.cron_counting.proofs.HourLemmas.{byte-few, byte-ones}
use Rattle.cron_counting.proofs.TotalLemmas.{add-more, total-none}
use Rattle.cron_counting.proofs.hour.count_cut.Goals as goal

pub loop-minute-init : goal.loop-minute-init
loop-minute-init c = (sym (total-none _), omega arith)

pub loop-minute-preserved : goal.loop-minute-preserved
loop-minute-preserved c = (
  add-more _ c.loop-minute.minute _ _ c.loop-minute.invariant.0 (c.from-count.ensures ∙ (byte-ones _ ∙ ap ones c.is_taken.ensures)),
  let few : c.from-count.result ≤ 1 = byte-few _ _ c.from-count.ensures in omega (arith, few, c.loop-minute.invariant.1),
)
