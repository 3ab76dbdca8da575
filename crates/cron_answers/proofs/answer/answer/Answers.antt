use Rattle.std.proofs.Common.{refl, inl, inr}
use Rattle.jiff.specs.Words.{plain_zone}
use Rattle.cron_answers.specs.Answers.{given}
use Rattle.cron_answers.proofs.AnswerLemmas.{no_subject, not_asked, unlisted}
use Rattle.cron_answers.proofs.answer.answer.Goals as goal

pub returns-in-Err-clause-answers : goal.returns-in-Err-clause-answers
returns-in-Err-clause-answers g c =
    inr (
      c.in-Err.trouble,
      no_subject (given g.F.ZoneFiles.reads c.args.places.now c.args.now.nanosecond) c.args.request.now _ _ c.in-Err.trouble c.in-Err.ensures,
      (c.tell.ensures.told, c.tell.ensures.mark, c.tell.ensures.calls),
      refl,
    )

pub returns-in-Ok-list_fires-clause-answers : goal.returns-in-Ok-list_fires-clause-answers
returns-in-Ok-list_fires-clause-answers g c =
    inl (
      _,
      c.in-Ok-list_fires.listed,
      (
        record {
          expression = c.in-Ok.subject.expression;
          reads = c.in-Ok.ensures.0;
          zone = plain_zone c.time_zone-zone.result;
          opened = record { zone = c.in-Ok.subject.zone; opened = c.in-Ok.ensures.1; is_time_zone = c.time_zone-zone.ensures };
          asked = c.in-Ok-asked_of.asked;
          asks = c.in-Ok-asked_of.ensures;
          listed = c.in-Ok-list_fires.ensures.ok.0;
          noted = refl;
        },
        c.in-Ok-list_fires.ensures.ok.1,
        c.in-Ok-list_fires.ensures.ok.2,
      ),
      c.note.ensures.notes,
    )

pub returns-in-Ok-asked_of-clause-answers : goal.returns-in-Ok-asked_of-clause-answers
returns-in-Ok-asked_of-clause-answers g c =
    inr (
      c.in-Err-list_fires.unlisted,
      unlisted (given g.F.ZoneFiles.reads c.args.places.now c.args.now.nanosecond) c.args.request.now _ _ c.in-Err-list_fires.unlisted c.in-Ok.subject.expression (plain_zone c.time_zone-zone.result) c.in-Ok-asked_of.asked c.in-Ok.ensures.0
          (record { zone = c.in-Ok.subject.zone; opened = c.in-Ok.ensures.1; is_time_zone = c.time_zone-zone.ensures }) c.in-Ok-asked_of.ensures c.in-Err-list_fires.ensures.err.0,
      (c.tell-in-Err-list_fires.ensures.told, c.tell-in-Err-list_fires.ensures.mark, c.tell-in-Err-list_fires.ensures.calls),
      c.in-Err-list_fires.ensures.err.1,
    )

pub returns-clause-answers : goal.returns-clause-answers
returns-clause-answers g c =
    inr (
      c.in-Err-asked_of.trouble,
      not_asked (given g.F.ZoneFiles.reads c.args.places.now c.args.now.nanosecond) c.args.request.now _ _ c.in-Err-asked_of.trouble c.in-Ok.subject.expression (plain_zone c.time_zone-zone.result) c.in-Ok.ensures.0
          (record { zone = c.in-Ok.subject.zone; opened = c.in-Ok.ensures.1; is_time_zone = c.time_zone-zone.ensures }) c.in-Err-asked_of.ensures,
      (c.tell-in-Err-asked_of.ensures.told, c.tell-in-Err-asked_of.ensures.mark, c.tell-in-Err-asked_of.ensures.calls),
      refl,
    )
