use Rattle.std.proofs.Common.{◌+◌, ◌==◌, ◌||◌, suc, List, slice_index_or, subst, refl, sym, ap, ◌∙◌, arith}
use Rattle.std.specs.List.{list_any}
use Rattle.std.proofs.lemmas.List.{get_or_default, take_all}
use Rattle.cron_days.specs.declared.runs.Run.{Run}
use Rattle.cron_days.specs.Inner.Runs.{AreApart, is_in_runs}
use Rattle.cron_days.proofs.RunLemmas.{AreApart-push, HaveJoined, all_joined, joined-apart, joined-first, joined-longer}
use Rattle.cron_days.proofs.runs.runs_from.Goals as goal

pub loop-day-init : goal.loop-day-init
loop-day-init c =
    let last : Run = record { first = c.args.first; end = c.args.first + 1 } in
    subst (λ (l : List Run). HaveJoined c.args.first c.args.rest.now 0 l last) (sym c.new-runs.ensures.items)
    (joined-first c.args.first c.args.rest.now last c.requires.sorted (c.requires.in_range 0 0 (omega arith)) refl refl)

pub loop-day-preserved-then-day-last : goal.loop-day-preserved-then-day-last
loop-day-preserved-then-day-last c =
    let i = c.loop-day.day-index in
    let day = slice_index_or c.args.rest.now i 0 in
    let next : Run = record { first = c.loop-day.last.first; end = day + 1 } in
    joined-longer c.args.first c.args.rest.now i day c.loop-day.runs.items c.loop-day.last next c.requires.sorted c.loop-day.invariant c.loop-day-test.true
    (get_or_default c.args.rest.now i 0 day c.loop-day-test.true) (c.requires.in_range (suc i) 0 (omega (arith, c.loop-day-test.true))) c.if-day-last.true refl refl

pub overflow_add-last-in-loop-day : goal.overflow_add-last-in-loop-day
overflow_add-last-in-loop-day c =
    let below = c.requires.in_range (suc c.loop-day.day-index) 0 (omega (arith, c.loop-day-test.true)) in omega arith

pub loop-day-preserved : goal.loop-day-preserved
loop-day-preserved c =
    let i = c.loop-day.day-index in
    let day = slice_index_or c.args.rest.now i 0 in
    let next : Run = record { first = day; end = day + 1 } in
    subst (λ (l : List Run). HaveJoined c.args.first c.args.rest.now (i + 1) l next) (sym c.in_ok-push.ensures.items)
    (joined-apart c.args.first c.args.rest.now i day c.loop-day.runs.items c.loop-day.last next c.requires.sorted c.loop-day.invariant c.loop-day-test.true
    (get_or_default c.args.rest.now i 0 day c.loop-day-test.true) (c.requires.in_range (suc i) 0 (omega (arith, c.loop-day-test.true))) (omega (arith, c.if-day-last.false)) refl refl)

pub returns : goal.returns
returns c =
    let runs = c.loop-day.runs.items in
    let last = c.loop-day.last in
    let rest = c.args.rest.now in
    let was = c.loop-day.invariant in (
      subst AreApart (sym c.in_ok-push-2.ensures.items) (AreApart-push runs last was.growing),
      λ n. ap (λ (l : List Run). is_in_runs l n) c.in_ok-push-2.ensures.items ∙ all_joined runs last n _ (was.same n)
          ∙ ap (λ l. c.args.first == n || list_any (λ m. m == n) l) (take_all c.loop-day.day-index rest (omega (arith, c.loop-day-test.false))),
    )
