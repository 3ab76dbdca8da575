use Rattle.std.proofs.Common.{refl, inl, inr}
use Rattle.std.specs.String.{string_bytes}
use Rattle.jiff.specs.Words.{plain_zone}
use Rattle.cron_answers.specs.Answers.{given}
use Rattle.cron_answers.proofs.WholeLemmas.{no_whole, not_asked}
use Rattle.cron_answers.proofs.explain.explain.Goals as goal

pub returns-in-Err-clause-answers : goal.returns-in-Err-clause-answers
returns-in-Err-clause-answers g c =
    inr (inl (
      c.in-Err.trouble,
      no_whole (given g.F.ZoneFiles.reads c.args.places.now c.args.now.nanosecond) c.args.request.now _ _ c.in-Err.trouble c.in-Err.ensures,
      (c.tell.ensures.told, c.tell.ensures.mark, c.tell.ensures.calls),
      refl,
    ))

pub returns-in-Err-asked_of-clause-answers : goal.returns-in-Err-asked_of-clause-answers
returns-in-Err-asked_of-clause-answers g c =
    inr (inl (
      c.in-Err-asked_of.trouble,
      not_asked (given g.F.ZoneFiles.reads c.args.places.now c.args.now.nanosecond) c.args.request.now _ _ c.in-Err-asked_of.trouble c.in-Ok.subject.expression (plain_zone c.time_zone-zone.result) c.in-Ok.ensures.0
          (record { zone = c.in-Ok.subject.zone; opened = c.in-Ok.ensures.1; is_time_zone = c.time_zone-zone.ensures }) c.in-Err-asked_of.ensures,
      (c.tell-in-Err-asked_of.ensures.told, c.tell-in-Err-asked_of.ensures.mark, c.tell-in-Err-asked_of.ensures.calls),
      refl,
    ))

pub returns-clause-answers : goal.returns-clause-answers
returns-clause-answers g c =
    let texts = c.in-Ok-texts_of.ensures in
    let ended = c.send_between.ensures.ends in
    inl (
      (
        record {
          expression = c.in-Ok.subject.expression;
          reads = c.in-Ok.ensures.0;
          zone = plain_zone c.time_zone-zone.result;
          opened = record { zone = c.in-Ok.subject.zone; opened = c.in-Ok.ensures.1; is_time_zone = c.time_zone-zone.ensures };
          asked = c.in-Ok-asked_of.asked;
          asks = c.in-Ok-asked_of.ensures;
          explained = record {
            head = string_bytes c.in-Ok-texts_of.texts.head;
            is_head = texts.is_head;
            end = texts.end;
            is_end = texts.is_end;
            tally = texts.tally;
            is_tally = rw c.table-table.ensures at texts.is_tally;
            ends = rw (c.changes-changes.ensures, c.table-table.ensures, texts.tail) at ended;
          };
        },
        c.send_between.ensures.mark,
        c.send_between.ensures.calls,
      ),
      refl,
    )
