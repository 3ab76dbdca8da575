use Rattle.std.proofs.Common.{◌≡◌, ◌<◌, length, subst, sym, ◌∙◌, arith}
use Rattle.cron_c.specs.Arrays.{IsPage, IsWhole}
use Rattle.cron_c.proofs.Arrays.{running_begins, running_ends, running_goes_on, running_is_full}
use Rattle.cron_c.proofs.itemed.fill.Goals as goal

pub loop-at-init : goal.loop-at-init
loop-at-init g c = running_begins g.R.Itemed.is_item c.args.run.now c.args.items.now

pub loop-at-preserved : goal.loop-at-preserved
loop-at-preserved g c =
    let first = rw c.in-Some.is at c.next.ensures.steps in
    let room : c.loop-at.at < length c.args.items.now = omega (arith, c.loop-at-test.true) in
    running_goes_on g.R.Itemed.is_item c.args.run.now c.loop-at.run c.next.new.self c.args.items.now c.loop-at.items c.in-Some.fire c.item_of.result c.loop-at.at
    c.loop-at.invariant first room c.item_of.ensures

pub returns-in_default : goal.returns-in_default
returns-in_default g c =
    let none = rw c.in_default.is at c.next.ensures.steps in
    running_ends g.R.Itemed.is_item c.args.run.now c.loop-at.run c.args.items.now c.loop-at.items c.loop-at.at c.loop-at.invariant none.0

pub returns-in-Some-next : goal.returns-in-Some-next
returns-in-Some-next g c =
    let first = rw c.in-Some-next.is at c.next-2.ensures.steps in
    let full : c.loop-at.at ≡ length c.args.items.now = omega (arith, c.loop-at-test.false, c.loop-at.auto.at-end) in
    let page = running_is_full g.R.Itemed.is_item c.args.run.now c.loop-at.run c.next-2.new.self c.args.items.now c.loop-at.items c.in-Some-next.field-0 c.loop-at.at
    c.loop-at.invariant first full in
    subst (λ n. IsPage g.R.Itemed.is_item c.args.run.now c.args.items.now c.loop-at.items n) (full ∙ sym c.loop-at.auto.items) page

pub returns-in-None : goal.returns-in-None
returns-in-None g c =
    let none = rw c.in-None.is at c.next-2.ensures.steps in
    let full : c.loop-at.at ≡ length c.args.items.now = omega (arith, c.loop-at-test.false, c.loop-at.auto.at-end) in
    let whole = running_ends g.R.Itemed.is_item c.args.run.now c.loop-at.run c.args.items.now c.loop-at.items c.loop-at.at c.loop-at.invariant none.0 in
    subst (λ n. IsWhole g.R.Itemed.is_item c.args.run.now c.args.items.now c.loop-at.items n) (full ∙ sym c.loop-at.auto.items) whole
