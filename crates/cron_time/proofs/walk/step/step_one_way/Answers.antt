use Rattle.std.proofs.Common.{◌≡◌, false, None, refl}
use Rattle.jiff.specs.Words.{plain_zone}
use Rattle.cron_units.specs.declared.way.Way.{Way}
use Rattle.cron_units.specs.declared.way.Way.TheVariants.{Ahead, Back}
use Rattle.cron_time.specs.Walk.Inner.Placed.{last_is_later, IsKept}
use Rattle.cron_moments.specs.Readings.{Reading}
use Rattle.cron_moments.specs.declared.readings.Found.{Found}
use Rattle.cron_time.proofs.Walks.StepLemmas.{last_stop, kept_date, kept_time}
use Rattle.cron_time.proofs.walk.step.step_one_way.Goals as goal

single_is_last : (way : Way) (first : Reading) → false ≡ last_is_later way (record { first = first; second = None })
single_is_last Ahead first = refl
single_is_last Back first = refl

pub past_item-requires-clause-matching : goal.past_item-requires-clause-matching
past_item-requires-clause-matching g c =
    let s = c.args.fields.now in
    let z = plain_zone c.args.zone.now in
    let f : Found = record { first = c.args.state.now.earlier; second = None } in
    let kept : IsKept s z f false = rw c.in-Single.is at c.requires.placed in
    kept_date s z f false kept

pub past_item-requires-clause-member : goal.past_item-requires-clause-member
past_item-requires-clause-member g c =
    let s = c.args.fields.now in
    let z = plain_zone c.args.zone.now in
    let f : Found = record { first = c.args.state.now.earlier; second = None } in
    let kept : IsKept s z f false = rw c.in-Single.is at c.requires.placed in
    kept_time s z f false kept

pub returns-in-Single-clause-leads : goal.returns-in-Single-clause-leads
returns-in-Single-clause-leads g c =
    let s = c.args.fields.now in
    let z = plain_zone c.args.zone.now in
    let f : Found = record { first = c.args.state.now.earlier; second = None } in
    let kept : IsKept s z f false = rw c.in-Single.is at c.requires.placed in
    rw c.in-Single.is (last_stop c.args.way s z f false _ kept (single_is_last c.args.way c.args.state.now.earlier) c.past_item.ensures.reached)
