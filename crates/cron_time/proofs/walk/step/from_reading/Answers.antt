use Rattle.std.proofs.Common.{◌≡◌, ℤ, Bool, true, false, Some, if◌then◌else◌, refl, subst}
use Rattle.jiff.specs.Words.{plain_zone}
use Rattle.cron_units.specs.declared.way.Way.TheVariants.{Ahead, Back}
use Rattle.cron_moments.specs.Readings.{Reading}
use Rattle.cron_moments.specs.declared.readings.Found.{Found}
use Rattle.cron_time.specs.Walk.Inner.Placed.{stand_at, IsKept, IsPlaced}
use Rattle.cron_time.specs.Walk.Inner.Stand as kept
use Rattle.cron_time.specs.declared.walk.state.Stage.{Stage}
use Rattle.cron_time.specs.declared.walk.state.Stage.TheVariants as stage
use Rattle.cron_time.proofs.Walks.StepLemmas.{last_stop, other_stop, kept_date, kept_time}
use Rattle.cron_time.proofs.walk.step.from_reading.Goals as goal
use Rattle.cron_time.proofs.walk.step.from_reading.Goals.{in_default-via-in-Ahead+else-not-later, in_default-via-in-Back+else-later}

stand_is : (later : Bool) (at : Stage) (a b : Reading) (t : ℤ) → at ≡ (if later then stage.Later else stage.Earlier)
    → stand_at at a b t ≡ kept.At (record { first = a; second = Some b }) later
stand_is true at a b t is = rw is refl
stand_is false at a b t is = rw is refl

pub past_item_elsewhere-requires-clause-matching : goal.past_item_elsewhere-requires-clause-matching
past_item_elsewhere-requires-clause-matching c =
    let s = c.args.fields.now in
    let z = plain_zone c.args.zone.now in
    let w = c.args.state.now in
    let f : Found = record { first = w.earlier; second = Some w.later } in
    let here : IsKept s z f c.args.later = subst (IsPlaced s z) (stand_is c.args.later w.stage w.earlier w.later w.start.nanosecond c.requires.stage) c.requires.placed in
    kept_date s z f c.args.later here

pub past_item_elsewhere-requires-clause-member : goal.past_item_elsewhere-requires-clause-member
past_item_elsewhere-requires-clause-member c =
    let s = c.args.fields.now in
    let z = plain_zone c.args.zone.now in
    let w = c.args.state.now in
    let f : Found = record { first = w.earlier; second = Some w.later } in
    let here : IsKept s z f c.args.later = subst (IsPlaced s z) (stand_is c.args.later w.stage w.earlier w.later w.start.nanosecond c.requires.stage) c.requires.placed in
    kept_time s z f c.args.later here

pub returns-in-Ahead-clause-leads : goal.returns-in-Ahead-clause-leads
returns-in-Ahead-clause-leads c =
    let s = c.args.fields.now in
    let z = plain_zone c.args.zone.now in
    let f : Found = record { first = c.args.state.now.earlier; second = Some c.args.state.now.later } in
    let at : c.args.state.now.stage ≡ stage.Earlier = rw c.if-not-later.true at c.requires.stage in
    let here : IsKept s z f false = rw at at c.requires.placed in
    rw (at, c.in-Ahead.is) (other_stop Ahead s z f false here (λ e. cc))

pub returns-in-Back-clause-leads : goal.returns-in-Back-clause-leads
returns-in-Back-clause-leads c =
    let s = c.args.fields.now in
    let z = plain_zone c.args.zone.now in
    let f : Found = record { first = c.args.state.now.earlier; second = Some c.args.state.now.later } in
    let at : c.args.state.now.stage ≡ stage.Later = rw c.if-later.true at c.requires.stage in
    let here : IsKept s z f true = rw at at c.requires.placed in
    rw (at, c.in-Back.is) (other_stop Back s z f true here (λ e. cc))

pub returns-in_default-clause-leads : goal.returns-in_default-clause-leads
returns-in_default-clause-leads c =
    let s = c.args.fields.now in
    let z = plain_zone c.args.zone.now in
    let f : Found = record { first = c.args.state.now.earlier; second = Some c.args.state.now.later } in
    elim c.in_default.branch [
      | in_default-via-in-Ahead+else-not-later w ↦
          let at : c.args.state.now.stage ≡ stage.Later = rw w.if-not-later.false at c.requires.stage in
          let here : IsKept s z f true = rw at at c.requires.placed in
          let past = rw w.in-Ahead.is at c.past_item_elsewhere.ensures.reached in
          rw (at, w.in-Ahead.is) (last_stop Ahead s z f true _ here refl past)
      | in_default-via-in-Back+else-later w ↦
          let at : c.args.state.now.stage ≡ stage.Earlier = rw w.if-later.false at c.requires.stage in
          let here : IsKept s z f false = rw at at c.requires.placed in
          let past = rw w.in-Back.is at c.past_item_elsewhere.ensures.reached in
          rw (at, w.in-Back.is) (last_stop Back s z f false _ here refl past)
    ]
