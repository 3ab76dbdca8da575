use Rattle.std.proofs.Common.{FitsSigned, w64, to_z-of_z, ◌∙◌, rules}
use Rattle.jiff.specs.Words.{plain_zone}
use Rattle.cron_c.proofs.HistoryClockLemmas.{zone_alike}
use Rattle.cron_c.proofs.history_clock.steady_in_era.Goals as goal

pub returns-clause-kept : goal.returns-clause-kept
returns-clause-kept c = λ z zone k low high.
    let fits : FitsSigned w64 c.args.second = search rules in
    let own = rw c.unwrap.ensures at c.zone_at.ensures in
    let kept = rw (to_z-of_z fits) at c.steady_from.ensures.kept in
    zone_alike c.args.eras.now c.args.at z (plain_zone c.unwrap.result) k zone own ∙ kept k low high
