use Rattle.std.proofs.Common.{rules, ◌≡◌, ◌*ℤ◌, ℤ, pos, Some, subst, sym, refl, ◌∙◌}
use Rattle.cron_instants.specs.Instants.{IsBy, IsLatest}
use Rattle.cron_c.specs.Calls.{IsInstant}
use Rattle.cron_c.specs.Histories.{IsFound, IsHistoryItem}
use Rattle.cron_c.proofs.ErasBack.{none_at}
use Rattle.cron_c.proofs.history_calls.fire_at.Goals as goal

pub returns : goal.returns
returns g c =
    let eras = c.args.eras.now in
    let s = g.S.CivilSeconds.has c.args.set.now in
    let nanos : c.in-Ok.now.nanosecond ≡ c.args.second *ℤ pos 1_000_000_000 = search rules in
    let told = rw c.in-Ok-Some.field-0-is at c.in-Ok-Some.ensures in
    let found = subst (λ (t : ℤ). IsFound eras IsLatest (λ q. IsHistoryItem s eras q × IsBy t q) (Some c.in-Ok-Some.found)) nanos told in
    let same : c.item_of-last.result.instant ≡ c.args.second = search rules in
    (c.in-Ok-Some.found, found, sym c.item_of-last.ensures.instant_is ∙ same, c.item_of-last.ensures)

pub returns-then-last-second : goal.returns-then-last-second
returns-then-last-second g c =
    let eras = c.args.eras.now in
    let s = g.S.CivilSeconds.has c.args.set.now in
    let within : IsInstant c.args.second = search rules in
    let nanos : c.in-Ok.now.nanosecond ≡ c.args.second *ℤ pos 1_000_000_000 = search rules in
    let told = rw c.in-Ok-Some.field-0-is at c.in-Ok-Some.ensures in
    let found = subst (λ (t : ℤ). IsFound eras IsLatest (λ q. IsHistoryItem s eras q × IsBy t q) (Some c.in-Ok-Some.found)) nanos told in
    let other : c.item_of-last.result.instant ≡ c.args.second → ⊥ = search rules in (
      within,
      λ h r item same. none_at s eras c.args.second c.in-Ok-Some.found (found.1 h) (λ e. other (c.item_of-last.ensures.instant_is ∙ e)) r item same,
      refl,
    )
