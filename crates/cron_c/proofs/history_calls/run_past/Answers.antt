use Rattle.std.proofs.Common.{rules, ◌≡◌, ◌*ℤ◌, ℤ, pos, true, refl, subst}
use Rattle.cron_instants.specs.Instants.{IsBy}
use Rattle.cron_instants.specs.Order.{is_earlier}
use Rattle.cron_c.specs.Calls.{IsInstant}
use Rattle.cron_c.specs.Histories.{FillsIn, IsHistoryItem}
use Rattle.cron_c.proofs.HistoryFilling.{in_past_says}
use Rattle.cron_c.proofs.history_calls.run_past.Goals as goal

pub returns : goal.returns
returns g c =
    let eras = c.args.eras.now in
    let s = g.S.CivilSeconds.has c.args.set.now in
    let given = c.in-Some.given in
    let now_is : c.in-Ok.now.nanosecond ≡ c.args.now *ℤ pos 1_000_000_000 = search rules in
    let to : IsInstant c.args.now = search rules in
    let by_now = subst (λ (t : ℤ). FillsIn eras (λ q. IsHistoryItem s eras q × (is_earlier given q ≡ true) × IsBy t q)
    c.args.items.now c.fill_history.new.items c.fill_history.new.count c.fill_history.result) now_is c.fill_history.ensures in
    in_past_says s eras given c.args.item.now c.args.now c.args.items.now c.fill_history.new.items c.fill_history.new.count c.fill_history.result
    c.in-Some.ensures to by_now

pub returns-in_default-from_second : goal.returns-in_default-from_second
returns-in_default-from_second g c = ((c.in-Some.given, c.in-Some.ensures), search rules, refl, refl)
