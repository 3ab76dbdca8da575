use Rattle.std.proofs.Common.{◌≡◌, ℕ, length, true, refl, sym, subst, inr}
use Rattle.jiff.specs.Words.{plain_zone}
use Rattle.cron_answers.specs.Expressions.{changes_by, schedules_of}
use Rattle.cron_rotas.specs.Rotas.{is_rota}
use Rattle.cron_rota_answers.proofs.AnswerLemmas.{is_rota_planned}
use Rattle.cron_rota_answers.proofs.NameLemmas.{count_texts}
use Rattle.cron_rota_answers.specs.Gathering.{shifts_asked}
use Rattle.cron_rota_answers.specs.People.{texts}
use Rattle.cron_rota_answers.specs.Reports.{duty_of, handovers_by}
use Rattle.cron_rota_answers.proofs.gathering.roster_in.Goals as goal

pub gather_in-requires-clause-rota : goal.gather_in-requires-clause-rota
gather_in-requires-clause-rota g c =
    let plan = c.in_ok-plan.plan in
    subst (λ (n : ℕ). is_rota n plan.swaps.items ≡ true) (count_texts plan.names.items)
    (is_rota_planned c.args.request.now (plain_zone c.time_zone-zone.result) c.args.now.nanosecond plan.start.nanosecond plan.asked (texts plan.names.items) plan.swaps.items
    c.in_ok-plan.ensures)

pub returns-in-Ok-gather_in : goal.returns-in-Ok-gather_in
returns-in-Ok-gather_in g c =
    let plan = c.in_ok-plan.plan in
    let z = plain_zone c.time_zone-zone.result in
    let e = c.in-Ok.subject.expression in
    record {
      expression = e;
      zone = z;
      begun = record { zone = c.in-Ok.subject.zone; subject = c.in-Ok.ensures; is_time_zone = c.time_zone-zone.ensures };
      start = plan.start.nanosecond;
      what = plan.asked;
      swaps = plan.swaps.items;
      planned = c.in_ok-plan.ensures;
      are =
          subst (λ (n : ℕ). c.in-Ok-gather_in.shifts.items ≡ shifts_asked plan.asked
          (duty_of n plan.start.nanosecond (handovers_by (changes_by c.args.request.now.changes e) (schedules_of e) z) plan.swaps.items))
          (sym (count_texts plan.names.items)) c.in-Ok-gather_in.ensures;
    }

pub returns : goal.returns
returns g c =
    inr (
      c.in-Ok.subject.expression,
      plain_zone c.time_zone-zone.result,
      record { zone = c.in-Ok.subject.zone; subject = c.in-Ok.ensures; is_time_zone = c.time_zone-zone.ensures },
      inr refl,
    )
