use Rattle.std.proofs.Common.{ℕ, List, subst}
use Rattle.std.specs.Borrow.{Bor}
use Rattle.jiff.specs.Words.{plain_zone}
use Rattle.cron_rota_answers.proofs.AnswerLemmas.{no_swaps}
use Rattle.cron_rota_answers.specs.People.{texts}
use Rattle.cron_rota_answers.specs.Plans.{AreNoSwapsOf}
use Rattle.cron_rota_answers.specs.Swaps.{given}
use Rattle.cron_rota_answers.proofs.plan.plan_of.Goals as goal

pub returns : goal.returns
returns c =
    let why = subst (λ (l : List (Bor (List ℕ))). AreNoSwapsOf (given (texts l) (plain_zone c.args.zone.now) c.args.now.nanosecond) c.args.request.now.swaps c.in-Err-swaps_in.trouble) c.as_slice.ensures.value c.in-Err-swaps_in.ensures in
    no_swaps c.args.request.now (plain_zone c.args.zone.now) c.args.now.nanosecond (texts c.in-Ok-names_of.names.items) c.in-Err-swaps_in.trouble
    (c.in-Ok.times.0.nanosecond, c.in-Ok.times.1, c.in-Ok.ensures) c.in-Ok-names_of.ensures why
