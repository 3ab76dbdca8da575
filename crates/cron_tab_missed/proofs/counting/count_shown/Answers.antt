use Rattle.std.proofs.Common.{rules, ap, map, ◌∙◌}
use Rattle.cron_agenda.specs.declared.fire.EntryFire.TheVariants.{AsShown}
use Rattle.cron_tab_missed.specs.Inner.Counting.{with_fires}
use Rattle.cron_tab_missed.specs.Missed.{missed_of}
use Rattle.cron_tab_missed.proofs.CountLemmas.{counted_all}
use Rattle.cron_tab_missed.proofs.counting.count_shown.Goals as goal

pub loop-moment-init : goal.loop-moment-init
loop-moment-init c =
    let all = map AsShown c.into_iter-moment-iterator.result in
    ap (λ m. with_fires m all) c.nothing-missed.ensures ∙ (counted_all all ∙ ap missed_of (search rules))
