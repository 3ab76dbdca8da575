use Rattle.std.proofs.Common.{sym, ◌∙◌}
use Rattle.jiff.specs.Words.{plain_zone}
use Rattle.cron_callers.proofs.RestartLemmas.{made_again, next_of, not_none}
use Rattle.cron_callers.proofs.restarts.item_after.Goals as goal

pub returns-in_default-clause-goes_on : goal.returns-in_default-clause-goes_on
returns-in_default-clause-goes_on c = λ i r item shown offset.
    absurd (not_none r (sym c.in_default.is ∙ made_again c.args.schedule.now.sets (plain_zone c.args.zone.now) c.args.noted.shown c.args.noted.offset
    c.from_parts.result c.items_in_range.ensures c.from_parts.ensures.only i r item shown offset))

pub returns-in_default-resume-clause-goes_on : goal.returns-in_default-resume-clause-goes_on
returns-in_default-resume-clause-goes_on c = λ i r item shown offset.
    let made = made_again c.args.schedule.now.sets (plain_zone c.args.zone.now) c.args.noted.shown c.args.noted.offset c.from_parts.result
    c.items_in_range.ensures c.from_parts.ensures.only i r item shown offset in
    absurd (c.in_default-resume.ensures i (item ∙ sym (sym c.in-Some.is ∙ made)))

pub returns-clause-goes_on : goal.returns-clause-goes_on
returns-clause-goes_on c = λ i r item shown offset.
    let made = made_again c.args.schedule.now.sets (plain_zone c.args.zone.now) c.args.noted.shown c.args.noted.offset c.from_parts.result
    c.items_in_range.ensures c.from_parts.ensures.only i r item shown offset in
    next_of c.args.schedule.now.sets (plain_zone c.args.zone.now) c.in-Some.last r i c.in-Some-resume.walk _ c.next.result c.single_items.ensures
    (sym c.in-Some.is ∙ made) item c.in-Some-resume.ensures c.next.ensures.steps.cursor

pub returns-clause-no_fire : goal.returns-clause-no_fire
returns-clause-no_fire c = λ absent.
    let at = c.in-Some-resume.ensures.at in
    let parts = c.in-Some.ensures.parts in
    absurd (absent at.place c.in-Some.last at.item parts.shown_is parts.offset_is)
