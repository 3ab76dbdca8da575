use Rattle.std.proofs.Common.{◌≡◌, ◌∙◌, rules, FitsSigned, w64, to_z-of_z}
use Rattle.cron_stretches.specs.Fires.{second_of, whole_second}
use Rattle.cron_stretches.proofs.FireLemmas.{own_second}
use Rattle.cron_window_answers.proofs.listing.list.Goals as goal

pub returns-clause-lists : goal.returns-clause-lists
returns-clause-lists g c =
    let fits : FitsSigned w64 c.whole_second.result = search rules in
    let fits-end : FitsSigned w64 c.whole_second-2.result = search rules in
    let first : second_of c.instant_at-first.result.nanosecond ≡ whole_second c.args.from.nanosecond =
    own_second c.whole_second.result c.instant_at-first.result.nanosecond (rw (to_z-of_z fits) at c.instant_at-first.ensures) ∙ c.whole_second.ensures.second in
    let end : second_of c.instant_at-end.result.nanosecond ≡ whole_second c.args.to.nanosecond =
    own_second c.whole_second-2.result c.instant_at-end.result.nanosecond (rw (to_z-of_z fits-end) at c.instant_at-end.ensures) ∙ c.whole_second-2.ensures.second in
    c.finish.ensures.ends _ _ (rw (first, end) at c.send_rows.ensures.rows)
