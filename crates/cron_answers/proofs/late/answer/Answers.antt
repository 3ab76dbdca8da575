use Rattle.std.proofs.Common.{inr, refl}
use Rattle.jiff.specs.Words.{plain_zone}
use Rattle.cron_answers.specs.declared.trouble.Trouble.TheVariants as trouble
use Rattle.cron_answers.proofs.late.answer.Goals as goal

pub returns-in_default-clause-answers : goal.returns-in_default-clause-answers
returns-in_default-clause-answers g c =
    inr (
      trouble.Instant c.args.request.now.last,
      (
        refl,
        (
          c.in-Ok.subject.expression,
          plain_zone c.time_zone-zone.result,
          record { zone = c.in-Ok.subject.zone; subject = c.in-Ok.ensures; is_time_zone = c.time_zone-zone.ensures },
          c.in_default.ensures,
        ),
      ),
      (c.tell-in_default.ensures.told, c.tell-in_default.ensures.mark, c.tell-in_default.ensures.calls),
      refl,
    )
