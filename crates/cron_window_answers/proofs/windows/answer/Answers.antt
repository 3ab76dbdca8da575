use Rattle.std.proofs.Common.{inr, refl}
use Rattle.jiff.specs.Words.{plain_zone}
use Rattle.cron_window_answers.specs.Windows.{windows_of}
use Rattle.cron_window_answers.proofs.windows.answer.Goals as goal

pub returns-clause-answers : goal.returns-clause-answers
returns-clause-answers g c =
    inr (
      c.in-Err-ends_of.trouble,
      inr (
        windows_of c.args.request.now.words.changes c.in-Ok.sought.subject.expression c.in-Ok.sought.closing (plain_zone c.time_zone-zone.result),
        plain_zone c.time_zone-zone.result,
        record { named = c.in-Ok.sought; sought = c.in-Ok.ensures; is_time_zone = c.time_zone-zone.ensures; are = refl },
        c.in-Err-ends_of.ensures,
      ),
      (c.tell-in-Err-ends_of.ensures.told, c.tell-in-Err-ends_of.ensures.mark, c.tell-in-Err-ends_of.ensures.calls),
      refl,
    )
