use Rattle.std.proofs.Common.{◌≡◌, ◌<◌, refl, sym, ◌∙◌, arith, rules, slice_set}
use Rattle.std.specs.Prelude.{length}
use Rattle.jiff.specs.Words.{plain_zone}
use Rattle.cron_time.specs.Walk.Inner.Placed.{stand_of}
use Rattle.cron_c.proofs.Filling.{filling_begins, filling_goes_on, filling_ends}
use Rattle.cron_c.proofs.listing.fill.Goals as goal

pub loop-count-init : goal.loop-count-init
loop-count-init c =
    (filling_begins c.args.way c.args.fields.now (plain_zone c.args.zone.now) (stand_of c.args.from) c.args.items.now c.requires.placed, refl, c.requires.known)

pub returns-in_default : goal.returns-in_default
returns-in_default c =
    filling_ends c.args.way c.args.fields.now (plain_zone c.args.zone.now) (stand_of c.args.from) (stand_of c.loop-count.state)
    (stand_of c.step.new.state) c.args.items.now c.loop-count.items c.loop-count.count c.loop-count.invariant.0 c.step.ensures.leads
    (sym c.in_default.is ∙ c.answer.ensures)

pub loop-count-preserved : goal.loop-count-preserved
loop-count-preserved c =
    let zone = plain_zone c.args.zone.now in
    let (filling, size, known) = c.loop-count.invariant in
    let room : c.loop-count.count < length c.args.items.now = omega (arith, c.loop-count-test.true, size) in
    let longer : length (slice_set c.loop-count.items c.loop-count.count c.item_of.result) ≡ length c.args.items.now = search rules in (
      filling_goes_on c.args.way c.args.fields.now zone (stand_of c.args.from) (stand_of c.loop-count.state) (stand_of c.step.new.state)
          c.args.items.now c.loop-count.items c.loop-count.count c.in-Some.moment c.item_of.result
          filling room c.step.ensures.leads (sym c.in-Some.is ∙ c.answer.ensures) c.item_of.ensures,
      longer,
      c.step.ensures.known,
    )

pub returns : goal.returns
returns c = search rules
