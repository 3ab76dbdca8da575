use Rattle.std.proofs.Common.{rules, ◌≡◌, ◌*ℤ◌, ℤ, pos, subst}
use Rattle.cron_instants.specs.Instants.{IsAfter, IsBy}
use Rattle.cron_c.specs.Calls.{IsInstant}
use Rattle.cron_c.specs.Histories.{FillsIn, IsHistoryItem}
use Rattle.cron_c.proofs.HistoryFilling.{in_between_says}
use Rattle.cron_c.proofs.history_calls.run_between.Goals as goal

pub returns : goal.returns
returns g c =
    let eras = c.args.eras.now in
    let s = g.S.CivilSeconds.has c.args.set.now in
    let last_is : c.in-Ok.last.nanosecond ≡ c.args.last *ℤ pos 1_000_000_000 = search rules in
    let now_is : c.in-Ok-from_second.now.nanosecond ≡ c.args.now *ℤ pos 1_000_000_000 = search rules in
    let from : IsInstant c.args.last = search rules in
    let to : IsInstant c.args.now = search rules in
    let after_last = subst (λ (t : ℤ). FillsIn eras (λ r. IsHistoryItem s eras r × IsAfter t r × IsBy c.in-Ok-from_second.now.nanosecond r)
    c.args.items.now c.fill_history.new.items c.fill_history.new.count c.fill_history.result) last_is c.fill_history.ensures in
    let by_now = subst (λ (t : ℤ). FillsIn eras (λ r. IsHistoryItem s eras r × IsAfter (c.args.last *ℤ pos 1_000_000_000) r × IsBy t r)
    c.args.items.now c.fill_history.new.items c.fill_history.new.count c.fill_history.result) now_is after_last in
    in_between_says s eras c.args.last c.args.now c.args.items.now c.fill_history.new.items c.fill_history.new.count c.fill_history.result from to by_now
