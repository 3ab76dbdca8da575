use Rattle.std.proofs.Common.{inr, refl}
use Rattle.jiff.specs.Words.{plain_zone}
use Rattle.cron_answers.specs.declared.trouble.Trouble.TheVariants as trouble
use Rattle.cron_window_answers.specs.Windows.{windows_of}
use Rattle.cron_window_answers.proofs.inside.answer.Goals as goal

pub returns-in_default-clause-answers : goal.returns-in_default-clause-answers
returns-in_default-clause-answers g c =
    inr (
      trouble.Instant c.args.request.now.at,
      inr (
        windows_of c.args.request.now.words.changes c.in-Ok.sought.subject.expression c.in-Ok.sought.closing (plain_zone c.time_zone-zone.result),
        plain_zone c.time_zone-zone.result,
        record { named = c.in-Ok.sought; sought = c.in-Ok.ensures; is_time_zone = c.time_zone-zone.ensures; are = refl },
        (refl, c.in_default.ensures),
      ),
      (c.tell-in_default.ensures.told, c.tell-in_default.ensures.mark, c.tell-in_default.ensures.calls),
      refl,
    )
