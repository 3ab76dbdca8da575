use Rattle.std.proofs.Common.{rules, ◌≡◌, ℕ, ◌++◌, List, subst, sym}
use Rattle.jiff.specs.Words.{plain_zone}
use Rattle.cron_rotas.specs.Rotas.{shifts_between}
use Rattle.cron_stretches.specs.Fires.{IsInstant, second_of}
use Rattle.cron_stretches.specs.declared.stretch.Stretch.{Stretch}
use Rattle.cron_rota_answers.proofs.RowLemmas.{AreWithin, instant_between, rows_end, rows_on, shifts_within}
use Rattle.cron_rota_answers.specs.People.{texts}
use Rattle.cron_rota_answers.specs.Rows.{AreRows}
use Rattle.cron_rota_answers.proofs.report.shift_rows.Goals as goal

pub loop-shift-init : goal.loop-shift-init
loop-shift-init g c =
    let from = second_of c.args.from.nanosecond in
    let to = second_of c.args.to.nanosecond in
    let all = shifts_between c.args.rota.now from to in
    let form = c.args.words.now.form in
    let z = plain_zone c.args.words.now.zone.now in
    let names = texts c.args.words.now.names.now in
    let same : c.into_iter-shift-iterator.result ≡ shifts_between c.args.rota.now (second_of c.args.from.nanosecond) (second_of c.args.to.nanosecond) = search rules in
    record {
      adds = λ more are.
          subst (λ (items : List ℕ). AreRows form z names all (items ++ more)) (sym c.new-rows.ensures.items)
          (subst (λ (l : List (Stretch ℕ)). AreRows form z names l more) same are);
      within = subst (AreWithin from to) (sym same) (shifts_within c.args.rota.now from to);
    }

pub push_shift-requires-clause-first : goal.push_shift-requires-clause-first
push_shift-requires-clause-first g c =
    let from = second_of c.args.from.nanosecond in
    let to = second_of c.args.to.nanosecond in
    let within = subst (AreWithin from to) c.in-Some.ensures.steps c.loop-shift.invariant.within in
    instant_between from to c.in-Some.shift.first (subst IsInstant c.second_of-from.ensures.second c.second_of-from.ensures.in_range)
    (subst IsInstant c.second_of-to.ensures.second c.second_of-to.ensures.in_range) within.0 within.1

pub push_shift-requires-clause-end : goal.push_shift-requires-clause-end
push_shift-requires-clause-end g c =
    let from = second_of c.args.from.nanosecond in
    let to = second_of c.args.to.nanosecond in
    let within = subst (AreWithin from to) c.in-Some.ensures.steps c.loop-shift.invariant.within in
    instant_between from to c.in-Some.shift.end (subst IsInstant c.second_of-from.ensures.second c.second_of-from.ensures.in_range)
    (subst IsInstant c.second_of-to.ensures.second c.second_of-to.ensures.in_range) within.2 within.3

pub loop-shift-preserved : goal.loop-shift-preserved
loop-shift-preserved g c =
    let from = second_of c.args.from.nanosecond in
    let to = second_of c.args.to.nanosecond in
    let within = subst (AreWithin from to) c.in-Some.ensures.steps c.loop-shift.invariant.within in
    record {
      adds = rows_on c.args.words.now.form (plain_zone c.args.words.now.zone.now) (texts c.args.words.now.names.now) c.in-Some.shift c.loop-shift.shift-iterator c.next.new.self
          (shifts_between c.args.rota.now from to) c.loop-shift.rows.items c.push_shift.new.report.items c.in-Some.ensures.steps c.in_ok-push_shift.ensures c.loop-shift.invariant.adds;
      within = within.4;
    }

pub returns : goal.returns
returns g c =
    rows_end c.args.words.now.form (plain_zone c.args.words.now.zone.now) (texts c.args.words.now.names.now) c.loop-shift.shift-iterator
    (shifts_between c.args.rota.now (second_of c.args.from.nanosecond) (second_of c.args.to.nanosecond)) c.loop-shift.rows.items c.in-None.ensures.steps.0
    c.loop-shift.invariant.adds
