use Rattle.std.proofs.Common.{ap, sym, ◌∙◌, Vec, Global}
use Rattle.cron_time.specs.Matches.{matches_date}
use Rattle.cron_counting.specs.declared.times.Times.{Times}
use Rattle.cron_counting.proofs.TimeLemmas.{fits-none, gather-kept, gather-more}
use Rattle.cron_counting.proofs.times.gather.Goals as goal
use Rattle.cron_counting.proofs.times.gather.Goals.{then-includes_date+in_ok-push, else-includes_date}

pub loop-fields-init : goal.loop-fields-init
loop-fields-init c = λ t. fits-none _ t c.clear.ensures.items

pub loop-fields-preserved : goal.loop-fields-preserved
loop-fields-preserved c = elim c.if-includes_date.branch [
  | then-includes_date+in_ok-push w ↦
      gather-more (λ s. matches_date s c.args.date) c.args.schedules.now c.loop-fields.fields-index c.fields-item.result _ _ _ c.loop-fields-test.true c.fields-item.is
      c.loop-fields.invariant (ap (λ (v : Vec Times Global). v.items) w.times-is ∙ w.in_ok-push.ensures.items) w.times_of.ensures
      (sym c.includes_date.ensures ∙ w.if-includes_date.true)
  | else-includes_date w ↦
      gather-kept (λ s. matches_date s c.args.date) c.args.schedules.now c.loop-fields.fields-index c.fields-item.result _ _ c.loop-fields-test.true c.fields-item.is
      c.loop-fields.invariant (ap (λ (v : Vec Times Global). v.items) w.times-is) (sym c.includes_date.ensures ∙ w.if-includes_date.false)
]
