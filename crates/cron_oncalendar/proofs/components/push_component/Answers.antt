use Rattle.std.proofs.Common.{◌∷◌, [], List, ℕ, sym, subst, ◌∙◌, rules}
use Rattle.cron_oncalendar.specs.Inner.Written.{AreRangesText}
use Rattle.cron_oncalendar.specs.declared.components.Spelling.TheVariants.{Digits}
use Rattle.cron_oncalendar.proofs.ComponentLemmas.{star_component, ranges_component}
use Rattle.cron_oncalendar.proofs.PushLemmas.{if_ok, piece_pushed}
use Rattle.cron_oncalendar.proofs.components.push_component.Goals as goal

pub returns-then-is_all : goal.returns-then-is_all
returns-then-is_all g c =
    if_ok c.write.result _ _
    (λ e. record { piece = 42 ∷ []; pushed = e; is = star_component _ _ (c.is_all.ensures.0 (search (rules, c.if-is_all.true))) })
    c.write.ensures.bytes

pub returns-in-Some : goal.returns-in-Some
returns-in-Some g c =
    let same = sym c.in-Some.ensures.steps ∙ c.iter-ordinals.ensures.members in
    if_ok c.push_ranges.result _ _
    (λ h. piece_pushed _ _ _ _ (λ piece r. ranges_component _ _ piece c.requires.unit c.iter-ordinals.ensures.set
    (subst (λ (xs : List ℕ). AreRangesText Digits xs piece) same r)) h)
    c.push_ranges.ensures
