use Rattle.std.proofs.Common.{inl, inr, refl}
use Rattle.jiff.specs.Words.{plain_zone}
use Rattle.cron_window_answers.specs.Windows.{windows_of}
use Rattle.cron_window_answers.proofs.gathering.windows_in.Goals as goal

pub returns-in-Err-ends_of : goal.returns-in-Err-ends_of
returns-in-Err-ends_of g c =
    inr (
      windows_of c.args.words.now.changes c.in-Ok.sought.subject.expression c.in-Ok.sought.closing (plain_zone c.time_zone-zone.result),
      plain_zone c.time_zone-zone.result,
      record { named = c.in-Ok.sought; sought = c.in-Ok.ensures; is_time_zone = c.time_zone-zone.ensures; are = refl },
      inl c.in-Err-ends_of.ensures,
    )

pub returns : goal.returns
returns g c =
    inr (
      windows_of c.args.words.now.changes c.in-Ok.sought.subject.expression c.in-Ok.sought.closing (plain_zone c.time_zone-zone.result),
      plain_zone c.time_zone-zone.result,
      record { named = c.in-Ok.sought; sought = c.in-Ok.ensures; is_time_zone = c.time_zone-zone.ensures; are = refl },
      inr refl,
    )
