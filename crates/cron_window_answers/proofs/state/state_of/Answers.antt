use Rattle.std.proofs.Common.{rules, FitsSigned, w64, to_z-of_z}
use Rattle.cron_windows.specs.Windows.{is_open}
use Rattle.cron_stretches.specs.Fires.{second_of}
use Rattle.cron_stretches.proofs.FireLemmas.{own_second}
use Rattle.cron_window_answers.proofs.StateLemmas.{state-is}
use Rattle.cron_window_answers.proofs.state.state_of.Goals as goal

pub returns : goal.returns
returns g c =
    let fits-from : FitsSigned w64 c.args.bounds.from = search rules in
    let fits-at : FitsSigned w64 c.args.bounds.at = search rules in
    let fits-to : FitsSigned w64 c.args.bounds.to = search rules in
    let from = own_second c.args.bounds.from c.instant_at-from.result.nanosecond (rw (to_z-of_z fits-from) at c.instant_at-from.ensures) in
    let at = own_second c.args.bounds.at c.instant_at.result.nanosecond (rw (to_z-of_z fits-at) at c.instant_at.ensures) in
    let to = own_second c.args.bounds.to c.instant_at-to.result.nanosecond (rw (to_z-of_z fits-to) at c.instant_at-to.ensures) in
    state-is (is_open c.args.windows.now) _ c.args.bounds.from c.args.bounds.at c.args.bounds.to (second_of c.instant_at-from.result.nanosecond)
    (second_of c.instant_at.result.nanosecond) (second_of c.instant_at-to.result.nanosecond) c.state_at.result c.unwrap.result c.unwrap.ensures
    c.state_at.ensures from at to
