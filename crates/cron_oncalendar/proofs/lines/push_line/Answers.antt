use Rattle.std.proofs.Common.{◌∷◌, ◌++◌, [], subst}
use Rattle.cron_units.specs.Sets.{Sets}
use Rattle.cron_oncalendar.specs.Inner.Pieces.{AreWeekdays}
use Rattle.cron_oncalendar.proofs.LineLemmas.{one_line}
use Rattle.cron_oncalendar.proofs.PushLemmas.{if_ok, pushed_on}
use Rattle.cron_oncalendar.proofs.lines.push_line.Goals as goal

pub returns : goal.returns
returns c =
    let days = c.in_ok-push_weekdays.ensures in
    let date = c.in_ok-push_date.ensures in
    let time = c.in_ok-push_time.ensures in
    if_ok c.writeln.result _ _
    (λ e. record {
      piece = days.piece ++ (date.piece ++ 32 ∷ (time.piece ++ (c.args.after.now ++ 10 ∷ [])));
      pushed = pushed_on _ _ _ days.piece _ days.pushed (pushed_on _ _ _ date.piece _ date.pushed
          (pushed_on _ _ _ (32 ∷ []) _ c.in_ok-push_str.ensures.bytes (pushed_on _ _ _ time.piece (c.args.after.now ++ 10 ∷ []) time.pushed
          (pushed_on _ _ _ c.args.after.now (10 ∷ []) c.in_ok-push_str-2.ensures.bytes e))));
      is = one_line c.args.fields.now c.args.last_day c.args.after.now days.piece date.piece time.piece
          (subst (λ (s : Sets). AreWeekdays s.days_of_week days.piece) c.fields.view_is days.is) date.is time.is;
    }) c.writeln.ensures.bytes
