use Rattle.std.proofs.Common.{rules, ap, map, ◌∙◌}
use Rattle.cron_agenda.specs.declared.fire.EntryFire.TheVariants.{Once}
use Rattle.cron_tab_missed.specs.Inner.Counting.{with_fires}
use Rattle.cron_tab_missed.specs.Missed.{missed_of}
use Rattle.cron_tab_missed.proofs.CountLemmas.{counted_all}
use Rattle.cron_tab_missed.proofs.counting.count_dues.Goals as goal

pub loop-due-init : goal.loop-due-init
loop-due-init c =
    let all = map Once c.into_iter-due-iterator.result in
    ap (λ m. with_fires m all) c.nothing-missed.ensures ∙ (counted_all all ∙ ap missed_of (search rules))
