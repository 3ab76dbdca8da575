use Rattle.std.proofs.Common.{rules, FitsSigned, w64, to_z-of_z}
use Rattle.cron_windows.specs.Windows.{is_open}
use Rattle.cron_stretches.specs.Fires.{second_of}
use Rattle.cron_windows.proofs.RunLemmas.{greatest}
use Rattle.cron_windows.proofs.windows.Windows.state_at.Goals as goal

pub returns : goal.returns
returns g c =
    let fits-from : FitsSigned w64 c.second_of-from.result = search rules in
    let fits-at : FitsSigned w64 c.second_of-at.result = search rules in
    let fits-to : FitsSigned w64 c.second_of-to.result = search rules in
    let fits-first : FitsSigned w64 c.start-first.result = search rules in
    let fits-end : FitsSigned w64 c.stretch_from-ahead.result.end = search rules in
    let until =
    rw (to_z-of_z fits-at, to_z-of_z fits-to, c.second_of-at.ensures.second, c.second_of-to.ensures.second) at c.stretch_from-ahead.ensures.lasts in
    let since = rw (to_z-of_z fits-from, to_z-of_z fits-at, c.second_of-from.ensures.second, c.second_of-at.ensures.second) at c.start-first.ensures in
    rw (to_z-of_z fits-first, to_z-of_z fits-end)
    (greatest (is_open c.args.self.now) c.stretch_from-ahead.result.value (second_of c.args.from.nanosecond) (second_of c.args.at.nanosecond)
    (second_of c.args.to.nanosecond) c.start-first.result c.stretch_from-ahead.result.end until since)
