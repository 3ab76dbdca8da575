use Rattle.std.proofs.Common.{◌≡◌, ◌∙◌, rules, refl, FitsSigned, w64, to_z-of_z}
use Rattle.cron_stretches.specs.Fires.{second_of, whole_second}
use Rattle.cron_stretches.proofs.FireLemmas.{own_second}
use Rattle.cron_rota_answers.proofs.plan.asked_of.Goals as goal

pub returns-in-Ok : goal.returns-in-Ok
returns-in-Ok c =
    let fits : FitsSigned w64 c.whole_second.result = search rules in
    let fits-end : FitsSigned w64 c.whole_second-in-Ok.result = search rules in
    let first : second_of c.instant_at-first.result.nanosecond ≡ whole_second c.in-Ok.ends.0.nanosecond =
    own_second c.whole_second.result c.instant_at-first.result.nanosecond (rw (to_z-of_z fits) at c.instant_at-first.ensures) ∙ c.whole_second.ensures.second in
    let end : second_of c.instant_at-end.result.nanosecond ≡ whole_second c.in-Ok.ends.1.nanosecond =
    own_second c.whole_second-in-Ok.result c.instant_at-end.result.nanosecond (rw (to_z-of_z fits-end) at c.instant_at-end.ensures) ∙ c.whole_second-in-Ok.ensures.second in
    rw c.in-Between.is (c.in-Ok.ends.0.nanosecond, c.in-Ok.ends.1.nanosecond, c.in-Ok.ensures, first, end)

pub returns-in-Some : goal.returns-in-Some
returns-in-Some c = rw c.in-At.is c.in-Some.ensures

pub returns-in-None : goal.returns-in-None
returns-in-None c = rw c.in-At.is (refl, c.in-None.ensures)
