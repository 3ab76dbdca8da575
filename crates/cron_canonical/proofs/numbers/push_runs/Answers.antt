use Rattle.std.proofs.Common.{◌<◌, ◌∙◌, ap, arith, length, length-append, lit<, refl, sym}
use Rattle.cron_canonical.specs.Short.{run_item, short_item}
use Rattle.cron_canonical.proofs.RunLemmas.{begins, goes_on, last_fits, last_pushed, run_fits, whole_fits}
use Rattle.cron_canonical.proofs.numbers.push_runs.Goals as goal

pub loop-ordinal-init : goal.loop-ordinal-init
loop-ordinal-init c = (refl, whole_fits 1245 c.args.text.now.items c.args.start c.args.ordinals _ c.into_iter-ordinal-iterator.ensures.into_iter_gives c.requires)

pub push_run-requires : goal.push_run-requires
push_run-requires c =
    let room = run_fits 1245 _ c.loop-ordinal.text.items c.loop-ordinal.first c.loop-ordinal.last c.in-Some.ordinal _ _
    (sym c.is_next.ensures ∙ c.if-not-is_next.true) c.in-Some.ensures.steps c.loop-ordinal.invariant.0 c.loop-ordinal.invariant.1 in
    omega arith

pub push-requires : goal.push-requires
push-requires c =
    let room = run_fits 1245 _ c.loop-ordinal.text.items c.loop-ordinal.first c.loop-ordinal.last c.in-Some.ordinal _ _
    (sym c.is_next.ensures ∙ c.if-not-is_next.true) c.in-Some.ensures.steps c.loop-ordinal.invariant.0 c.loop-ordinal.invariant.1 in
    let run = short_item (run_item (c.loop-ordinal.first, c.loop-ordinal.last)) in
    let fits : length c.push_run.new.text.items < 1245 = omega (arith, ap length c.push_run.ensures, length-append c.loop-ordinal.text.items run) in
    (lit< tt, fits)

pub loop-ordinal-preserved-then-not-is_next : goal.loop-ordinal-preserved-then-not-is_next
loop-ordinal-preserved-then-not-is_next c = (
  begins _ _ _ _ c.loop-ordinal.first c.loop-ordinal.last c.in-Some.ordinal _ _ (sym c.is_next.ensures ∙ c.if-not-is_next.true) c.in-Some.ensures.steps
      c.push_run.ensures c.push.ensures.items c.loop-ordinal.invariant.0,
  c.loop-ordinal.invariant.1,
)

pub loop-ordinal-preserved : goal.loop-ordinal-preserved
loop-ordinal-preserved c = (
  goes_on _ _ c.loop-ordinal.first c.loop-ordinal.last c.in-Some.ordinal _ _ (sym c.is_next.ensures ∙ c.if-not-is_next.false) c.in-Some.ensures.steps
      c.loop-ordinal.invariant.0,
  c.loop-ordinal.invariant.1,
)

pub push_run-requires-2 : goal.push_run-requires-2
push_run-requires-2 c =
    last_fits 1245 _ c.loop-ordinal.text.items c.loop-ordinal.first c.loop-ordinal.last _ c.in-None.ensures.steps.0 c.loop-ordinal.invariant.0
    c.loop-ordinal.invariant.1

pub returns : goal.returns
returns c =
    last_pushed _ _ _ c.args.start c.loop-ordinal.first c.loop-ordinal.last c.args.ordinals _ _ c.into_iter-ordinal-iterator.ensures.into_iter_gives
    c.in-None.ensures.steps.0 c.loop-ordinal.invariant.0 c.push_run-2.ensures
