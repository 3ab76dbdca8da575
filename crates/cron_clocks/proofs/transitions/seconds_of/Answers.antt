use Rattle.std.proofs.Common.{◌≡◌, pos, ◌+ℤ◌, ◌*◌, ◌∙◌, ap, rules, FitsSigned, w32, w64, to_z, of_z, to_z-of_z}
use Rattle.cron_clocks.proofs.RuleTransitions.{always_within}
use Rattle.cron_clocks.proofs.transitions.seconds_of.Goals as goal

pub returns-clause-transitions : goal.returns-clause-transitions
returns-clause-transitions c =
    let days = c.days_of-days.result in
    let transition = c.args.transition in
    let fits : FitsSigned w64 c.second_of.result = search rules in
    let fits_too : FitsSigned w64 c.second_of-2.result = search rules in
    let time : FitsSigned w32 transition.time = search rules in
    let first : to_z w64 (of_z w64 c.second_of.result) ≡ pos (days.first * 86_400) +ℤ transition.time =
    to_z-of_z fits ∙ c.second_of.ensures ∙ ap (λ s. pos (days.first * 86_400) +ℤ s) (to_z-of_z time) in
    let last : to_z w64 (of_z w64 c.second_of-2.result) ≡ pos (days.last * 86_400) +ℤ transition.time =
    to_z-of_z fits_too ∙ c.second_of-2.ensures ∙ ap (λ s. pos (days.last * 86_400) +ℤ s) (to_z-of_z time) in
    always_within transition days.first days.last _ _ first last c.days_of-days.ensures.among
