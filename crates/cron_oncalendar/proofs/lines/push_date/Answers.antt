use Rattle.std.proofs.Common.{◌∷◌, ◌++◌, [], Bool, true, false, codes, subst, sym}
use Rattle.std.specs.String.{string_bytes}
use Rattle.cron_units.specs.Sets.{Sets}
use Rattle.cron_oncalendar.specs.Inner.Pieces.{AreDates}
use Rattle.cron_oncalendar.specs.Inner.Written.{Pushes}
use Rattle.cron_oncalendar.proofs.LineLemmas.{last_dates, numbered_dates}
use Rattle.cron_oncalendar.proofs.PushLemmas.{if_ok, pushed_on, three_pushed}
use Rattle.cron_oncalendar.proofs.lines.push_date.Goals as goal

pub returns-then-last_day : goal.returns-then-last_day
returns-then-last_day c =
    let years = c.in_ok-push_component.ensures in
    let months = c.in_ok-push_component-2.ensures in
    if_ok c.write.result _ _
    (λ e. let piece = years.piece ++ 45 ∷ (months.piece ++ codes "~01") in record {
      piece = piece;
      pushed = pushed_on _ _ _ years.piece _ years.pushed (pushed_on _ _ _ (45 ∷ []) _ c.in_ok-push_str.ensures.bytes
          (pushed_on _ _ _ months.piece _ months.pushed e));
      is = subst (λ (b : Bool). AreDates c.args.fields.now b piece) (sym c.if-last_day.true)
          (subst (λ (s : Sets). AreDates s true piece) c.fields.view_is (last_dates _ years.piece months.piece years.is months.is));
    }) c.write.ensures.bytes

pub returns : goal.returns
returns c =
    if_ok c.push_component-3.result _ _
    (λ days. subst (λ (b : Bool). Pushes (AreDates c.args.fields.now b) (string_bytes c.args.text.now) (string_bytes c.push_component-3.new.text))
    (sym c.if-last_day.false)
    (three_pushed _ _ _ _ 45 _ _ _ _ _ _
    (λ p q r y m d. subst (λ (sets : Sets). AreDates sets false (p ++ 45 ∷ (q ++ 45 ∷ r))) c.fields.view_is (numbered_dates _ p q r y m d))
    c.in_ok-push_component.ensures c.in_ok-push_str.ensures.bytes c.in_ok-push_component-2.ensures c.in_ok-push_str-2.ensures.bytes days))
    c.push_component-3.ensures
