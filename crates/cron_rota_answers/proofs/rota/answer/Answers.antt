use Rattle.std.proofs.Common.{◌≡◌, ℕ, List, length, true, refl, sym, subst, inl, inr}
use Rattle.jiff.specs.Words.{plain_zone}
use Rattle.cron_answers.specs.Expressions.{changes_by, schedules_of}
use Rattle.cron_answers.specs.declared.trouble.Trouble.TheVariants.{NoMemory}
use Rattle.cron_rotas.specs.Rotas.{is_rota}
use Rattle.cron_rota_answers.proofs.AnswerLemmas.{is_rota_planned}
use Rattle.cron_rota_answers.proofs.NameLemmas.{count_texts}
use Rattle.cron_rota_answers.specs.People.{texts}
use Rattle.cron_rota_answers.specs.Reports.{IsReport, duty_of, handovers_by}
use Rattle.cron_rota_answers.specs.declared.trouble.RotaTrouble.TheVariants as trouble
use Rattle.cron_rota_answers.proofs.rota.answer.Goals as goal

pub returns-in-Err-clause-answers : goal.returns-in-Err-clause-answers
returns-in-Err-clause-answers g c =
    inr (trouble.Words c.in-Err.trouble, inl c.in-Err.ensures, (c.tell.ensures.told, c.tell.ensures.mark, c.tell.ensures.calls), refl)

pub report_in-requires-clause-rota : goal.report_in-requires-clause-rota
report_in-requires-clause-rota g c =
    let plan = c.in-Ok-plan_of.plan in
    subst (λ (n : ℕ). is_rota n plan.swaps.items ≡ true) (count_texts plan.names.items)
    (is_rota_planned c.args.request.now (plain_zone c.time_zone-zone.result) c.args.now.nanosecond plan.start.nanosecond plan.asked (texts plan.names.items) plan.swaps.items
    c.in-Ok-plan_of.ensures)

pub returns-in-Ok-report_in-clause-answers : goal.returns-in-Ok-report_in-clause-answers
returns-in-Ok-report_in-clause-answers g c =
    let plan = c.in-Ok-plan_of.plan in
    let report = c.in-Ok-report_in.report in
    let z = plain_zone c.time_zone-zone.result in
    let e = c.in-Ok.subject.expression in
    inl (
      (
        record {
          expression = e;
          zone = z;
          begun = record { zone = c.in-Ok.subject.zone; subject = c.in-Ok.ensures; is_time_zone = c.time_zone-zone.ensures };
          start = plan.start.nanosecond;
          what = plan.asked;
          names = texts plan.names.items;
          swaps = plan.swaps.items;
          planned = c.in-Ok-plan_of.ensures;
          text = c.as_slice.result.now;
          done = report.status;
          report = subst (λ (rows : List ℕ). IsReport c.args.request.now.form z (texts plan.names.items) plan.asked
              (duty_of (length (texts plan.names.items)) plan.start.nanosecond (handovers_by (changes_by c.args.request.now.changes e) (schedules_of e) z) plan.swaps.items) rows report.status)
              (sym c.as_slice.ensures.value)
              (subst (λ (n : ℕ). IsReport c.args.request.now.form z (texts plan.names.items) plan.asked
              (duty_of n plan.start.nanosecond (handovers_by (changes_by c.args.request.now.changes e) (schedules_of e) z) plan.swaps.items) report.rows.items report.status)
              (sym (count_texts plan.names.items)) c.in-Ok-report_in.ensures);
          written = c.send_bytes.ensures.ends;
        },
        c.send_bytes.ensures.mark,
        c.send_bytes.ensures.calls,
      ),
      refl,
    )

pub returns-clause-answers : goal.returns-clause-answers
returns-clause-answers g c =
    inr (
      trouble.Words NoMemory,
      inr (
        c.in-Ok.subject.expression,
        plain_zone c.time_zone-zone.result,
        record { zone = c.in-Ok.subject.zone; subject = c.in-Ok.ensures; is_time_zone = c.time_zone-zone.ensures },
        inr refl,
      ),
      (c.tell-in-Err-report_in.ensures.told, c.tell-in-Err-report_in.ensures.mark, c.tell-in-Err-report_in.ensures.calls),
      refl,
    )
