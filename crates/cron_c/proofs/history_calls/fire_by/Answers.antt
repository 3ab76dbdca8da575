use Rattle.std.proofs.Common.{rules, ◌≡◌, ◌*ℤ◌, ℤ, pos, subst}
use Rattle.cron_c.specs.Calls.{IsInstant}
use Rattle.cron_c.specs.Histories.{IsLastInBy}
use Rattle.cron_c.proofs.HistoryFilling.{fires_in}
use Rattle.cron_c.proofs.history_calls.fire_by.Goals as goal

pub returns-in-Ok-last_of_history : goal.returns-in-Ok-last_of_history
returns-in-Ok-last_of_history g c =
    let eras = c.args.eras.now in
    let s = g.S.CivilSeconds.has c.args.set.now in
    let found = c.in-Ok-last_of_history.found in
    let within : IsInstant c.args.second = search rules in
    let nanos : c.in-Ok.now.nanosecond ≡ c.args.second *ℤ pos 1_000_000_000 = search rules in
    let wanted = subst (λ (t : ℤ). IsLastInBy s eras t found) nanos c.in-Ok-last_of_history.ensures in
    fires_in IsLastInBy s eras c.args.second found c.args.item.now c.write_found.new.item c.write_found.result within wanted c.write_found.ensures
