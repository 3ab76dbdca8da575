use Rattle.std.proofs.Common.{◌∷◌, ◌++◌, [], List, ℕ, sym, subst, ◌∙◌, rules}
use Rattle.cron_oncalendar.specs.Inner.Written.{AreRangesText}
use Rattle.cron_oncalendar.specs.declared.components.Spelling.TheVariants.{Names}
use Rattle.cron_oncalendar.proofs.PushLemmas.{if_ok, nothing_pushed, pushed_on}
use Rattle.cron_oncalendar.proofs.WeekdayLemmas.{all_weekdays, none_turned, some_weekdays}
use Rattle.cron_oncalendar.proofs.components.push_weekdays.Goals as goal

pub returns-then-is_all : goal.returns-then-is_all
returns-then-is_all c = nothing_pushed _ _ (all_weekdays c.args.days.now (c.is_all.ensures.0 (search (rules, c.if-is_all.true))))

pub returns-in_default : goal.returns-in_default
returns-in_default c =
    absurd (c.requires.filled (none_turned c.args.days.now _ c.state_facts.ensures c.from_monday-numbers.ensures
    (sym c.iter-ordinals.ensures.members ∙ c.in_default.ensures.steps.0)))

pub returns : goal.returns
returns c =
    let same = sym c.in-Some.ensures.steps ∙ c.iter-ordinals.ensures.members in
    let ranges = c.in_ok-push_ranges.ensures in
    if_ok c.write.result _ _
    (λ e. record {
      piece = ranges.piece ++ 32 ∷ [];
      pushed = pushed_on _ _ _ ranges.piece (32 ∷ []) ranges.pushed e;
      is = some_weekdays c.args.days.now _ ranges.piece c.iter-ordinals.ensures.set c.from_monday-numbers.ensures
          (subst (λ (xs : List ℕ). AreRangesText Names xs ranges.piece) same ranges.is);
    }) c.write.ensures.bytes
