use Rattle.std.proofs.Common.{rules, ◌≡◌, ◌+◌, ◌≤◌, List, ◌∙◌, ap, refl, sym, subst, arith, length, FitsSigned, w64, to_z-of_z, length-append}
use Rattle.cron_c.specs.declared.item.CronItem.{CronItem}
use Rattle.cron_c.proofs.HistoryFilling.{IsDueAt, IsFilling, era_fits, era_refused, filling_begins, filling_ends, filling_fits, filling_goes_on, filling_is_full}
use Rattle.cron_c.proofs.history_runs.fill_history.Goals as goal

pub loop-at-init : goal.loop-at-init
loop-at-init g c =
    let fits : FitsSigned w64 c.least_second.result = search rules in
    let begun = rw (to_z-of_z fits) at c.place_of-at.ensures.begun in
    filling_begins (g.S.CivilSeconds.has c.args.set.now) c.args.eras.now c.args.begin.now c.args.now.nanosecond c.args.items.now c.place_of-at.result c.least_second.result
    c.least_second.ensures.least begun

pub split_at_mut-room-requires : goal.split_at_mut-room-requires
split_at_mut-room-requires g c =
    (filling_fits (g.S.CivilSeconds.has c.args.set.now) c.args.eras.now c.args.begin.now c.args.now.nanosecond c.args.items.now c.loop-at.items c.loop-at.at c.loop-at.written
    c.loop-at.invariant).0

pub fill_era-requires : goal.fill_era-requires
fill_era-requires g c = omega (arith, c.loop-at-test.true, c.eras_by-end.ensures.bound)

pub returns-in-More : goal.returns-in-More
returns-in-More g c =
    let front = c.split_at_mut-room.result.0.now in
    let back = c.split_at_mut-room.result.1.now in
    let filled = subst (λ (l : List CronItem). IsFilling (g.S.CivilSeconds.has c.args.set.now) c.args.eras.now c.args.begin.now c.args.now.nanosecond c.args.items.now l
    c.loop-at.at c.loop-at.written) c.split_at_mut-room.ensures.value c.loop-at.invariant in
    filling_is_full (g.S.CivilSeconds.has c.args.set.now) c.args.eras.now c.args.begin.now c.args.now.nanosecond c.args.items.now front back c.fill_era.new.items c.loop-at.at
    c.loop-at.written c.fill_era.new.count filled c.split_at_mut-room.ensures.front_len (rw c.in-More.is at c.fill_era.ensures)

pub returns-in_default : goal.returns-in_default
returns-in_default g c = (
  era_refused (g.S.CivilSeconds.has c.args.set.now) c.args.eras.now c.loop-at.at c.args.begin.now c.args.now.nanosecond c.split_at_mut-room.result.1.now c.fill_era.new.items
      c.fill_era.new.count c.fill_era.result c.fill_era.ensures c.in_default.not-Done c.in_default.not-More,
  refl,
)

pub overflow_add-written : goal.overflow_add-written
overflow_add-written g c =
    let front = c.split_at_mut-room.result.0.now in
    let back = c.split_at_mut-room.result.1.now in
    let due = IsDueAt (g.S.CivilSeconds.has c.args.set.now) c.args.eras.now c.loop-at.at c.args.begin.now c.args.now.nanosecond in
    let within = era_fits due back c.fill_era.new.items c.fill_era.new.count (rw c.in-Done.is at c.fill_era.ensures) in
    let all : length front + length back ≡ length c.args.items.now =
    sym (length-append front back) ∙ (ap length (sym c.split_at_mut-room.ensures.value) ∙ c.loop-at.auto.items) in
    let sum : c.loop-at.written + c.fill_era.new.count ≤ length c.args.items.now = omega (arith, within, all, c.split_at_mut-room.ensures.front_len) in
    search (rules, sum)

pub place_past-at-requires : goal.place_past-at-requires
place_past-at-requires g c = omega (arith, c.loop-at-test.true, c.eras_by-end.ensures.bound)

pub loop-at-preserved : goal.loop-at-preserved
loop-at-preserved g c =
    let front = c.split_at_mut-room.result.0.now in
    let back = c.split_at_mut-room.result.1.now in
    let filled = subst (λ (l : List CronItem). IsFilling (g.S.CivilSeconds.has c.args.set.now) c.args.eras.now c.args.begin.now c.args.now.nanosecond c.args.items.now l
    c.loop-at.at c.loop-at.written) c.split_at_mut-room.ensures.value c.loop-at.invariant in
    filling_goes_on (g.S.CivilSeconds.has c.args.set.now) c.args.eras.now c.args.begin.now c.args.now.nanosecond c.args.items.now front back c.fill_era.new.items c.loop-at.at
    c.loop-at.written c.fill_era.new.count filled c.split_at_mut-room.ensures.front_len c.place_past-at.result (rw c.in-Done.is at c.fill_era.ensures)
    c.place_past-at.ensures.further c.place_past-at.ensures.passed

pub returns : goal.returns
returns g c =
    let end : c.eras_by-end.result ≤ c.loop-at.at = omega (arith, c.loop-at-test.false) in
    filling_ends (g.S.CivilSeconds.has c.args.set.now) c.args.eras.now c.args.begin.now c.args.now.nanosecond c.args.items.now c.loop-at.items c.eras_by-end.result c.loop-at.at
    c.loop-at.written c.loop-at.invariant (c.eras_by-end.ensures.below (g.S.CivilSeconds.has c.args.set.now)) end
