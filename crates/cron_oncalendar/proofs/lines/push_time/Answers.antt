use Rattle.std.proofs.Common.{◌∷◌, ◌++◌, subst}
use Rattle.cron_units.specs.Sets.{Sets}
use Rattle.cron_oncalendar.specs.Inner.Pieces.{AreTimes}
use Rattle.cron_oncalendar.proofs.LineLemmas.{day_times}
use Rattle.cron_oncalendar.proofs.PushLemmas.{if_ok, three_pushed}
use Rattle.cron_oncalendar.proofs.lines.push_time.Goals as goal

pub returns : goal.returns
returns c =
    if_ok c.push_component-3.result _ _
    (λ seconds. three_pushed _ _ _ _ 58 _ _ _ _ _ _
    (λ p q r h m s. subst (λ (sets : Sets). AreTimes sets (p ++ 58 ∷ (q ++ 58 ∷ r))) c.fields.view_is (day_times _ p q r h m s))
    c.in_ok-push_component.ensures c.in_ok-push_str.ensures.bytes c.in_ok-push_component-2.ensures c.in_ok-push_str-2.ensures.bytes seconds)
    c.push_component-3.ensures
