use Rattle.std.proofs.Common.{◌≤ℤ◌, ◌<ℤ◌, ◌∙◌, ap, rules, sym}
use Rattle.jiff_core.specs.Date.{epoch_day}
use Rattle.std.specs.List.{take_while}
use Rattle.cron.specs.Words.{rest_ahead}
use Rattle.cron_callers.specs.Items.{is_through}
use Rattle.cron_callers.proofs.ItemLemmas.{items_ahead-walk, is_through-from, is_through-past, taken-more, taken-all, taken-end}
use Rattle.cron_callers.proofs.items.items_of_day.Goals as goal
use Rattle.cron_callers.proofs.items.items_of_day.Goals.{in-None, in-Some+then-to_unix_epoch_day-last}

pub loop-item-init : goal.loop-item-init
loop-item-init c =
    let start = ap rest_ahead c.into_iter-item-iterator.ensures.into_iter_gives
    ∙ items_ahead-walk c.after-item-items.result _ _ _ c.after-item-items.ensures.sets c.after-item-items.ensures.zone
    c.after-item-items.ensures.cursor in
    rw c.new-listed.ensures.items (ap (take_while (is_through c.args.date)) (sym start))

pub loop-item-preserved : goal.loop-item-preserved
loop-item-preserved c =
    let day = c.to_unix_epoch_day.ensures.value ∙ ap epoch_day (c.to_plain-in-loop-item.ensures ∙ (c.date.ensures ∙ ap (λ d. d.date) c.datetime.ensures)) in
    let last = c.to_unix_epoch_day-last.ensures.value ∙ ap epoch_day c.to_plain.ensures in
    let within : c.to_unix_epoch_day.result ≤ℤ c.to_unix_epoch_day-last.result = search rules in
    taken-more (is_through c.args.date) c.in-Some.item _ c.loop-item.listed.items c.push.new.self.items _ _ c.loop-item.invariant c.in-Some.ensures.steps.items
    (is_through-from c.args.date c.in-Some.item _ _ day last within) c.in_ok-push.ensures.items

pub returns : goal.returns
returns c =
    elim c.match-next.branch [
      | in-None w ↦ taken-end (is_through c.args.date) _ c.loop-item.listed.items _ c.loop-item.invariant w.in-None.ensures.steps.items.0
      | in-Some+then-to_unix_epoch_day-last w ↦
          let day = w.to_unix_epoch_day.ensures.value ∙ ap epoch_day (w.to_plain-in-loop-item.ensures
          ∙ (w.date.ensures ∙ ap (λ d. d.date) w.datetime.ensures)) in
          let last = c.to_unix_epoch_day-last.ensures.value ∙ ap epoch_day c.to_plain.ensures in
          let past : c.to_unix_epoch_day-last.result <ℤ w.to_unix_epoch_day.result = search rules in
          taken-all (is_through c.args.date) w.in-Some.item _ c.loop-item.listed.items _ _ c.loop-item.invariant w.in-Some.ensures.steps.items
          (is_through-past c.args.date w.in-Some.item _ _ day last past)
    ]

pub returns-in_err-push : goal.returns-in_err-push
returns-in_err-push c = search rules
