use Rattle.std.proofs.Common.{◌+◌, [], ◌∷◌, ◌++◌, map, inl, inr, refl, subst, ap, ◌∙◌, length-append, arith}
use Rattle.std.specs.Prelude.{Ok}
use Rattle.jiff.specs.Words.{plain_zone}
use Rattle.cron_scheduler.specs.Runs.{clock_calls}
use Rattle.cron_agenda_scheduler.specs.Late.{tables}
use Rattle.cron_agenda_scheduler.specs.Turns.{Turns, job_calls}
use Rattle.cron_agenda_scheduler.proofs.TurnLemmas.{all_more, counted, loop_ends, none_turned, turns_on}
use Rattle.cron_agenda_scheduler.proofs.steps.run.Goals as goal

pub returns-then-left-eq0 : goal.returns-then-left-eq0
returns-then-left-eq0 g c = loop_ends c.loop.invariant.0 c.loop.left c.loop.clock c.loop.agenda c.loop.job c.loop.invariant.3 c.loop.invariant.2 (refl, refl, refl, inl c.if-left-eq0.true)

pub returns-in-Err : goal.returns-in-Err
returns-in-Err g c = loop_ends c.loop.invariant.0 c.loop.left c.loop.clock c.loop.agenda c.loop.job c.loop.invariant.3 c.loop.invariant.2
    (let some = c.if-left-eq0.false in omega arith, c.in-Err.ensures.0, c.in-Err.ensures.1)

pub returns-in_default : goal.returns-in_default
returns-in_default g c =
    let ts = tables g.T.CivilSeconds.has g.T.HasLateness.lateness (map plain_zone c.args.zones.now) in
    let cs = clock_calls g.C.AlarmClock.shows g.C.AlarmClock.waits in
    let js = job_calls g.J.AgendaJob.runs g.J.AgendaJob.passes in
    let none = none_turned ts cs js c.loop.left c.in-Ok.ensures.0 c.loop.clock c.loop.agenda c.loop.job c.turn.new.clock c.turn.new.agenda c.turn.new.job
    (subst (λ o. Turns ts cs js c.loop.left c.in-Ok.ensures.0 c.loop.clock c.loop.agenda c.loop.job (Ok o) c.turn.new.clock c.turn.new.agenda c.turn.new.job) c.in_default.is c.in-Ok.ensures.1) in
    loop_ends c.loop.invariant.0 c.loop.left c.loop.clock c.loop.agenda c.loop.job c.loop.invariant.3 c.loop.invariant.2 (none.1, none.2, none.3, inr (inl none.0))

pub loop-preserved : goal.loop-preserved
loop-preserved g c =
    let ts = tables g.T.CivilSeconds.has g.T.HasLateness.lateness (map plain_zone c.args.zones.now) in
    let cs = clock_calls g.C.AlarmClock.shows g.C.AlarmClock.waits in
    let js = job_calls g.J.AgendaJob.runs g.J.AgendaJob.passes in
    let deeds = c.in-Ok.ensures.0 in
    let turn = subst (λ o. Turns ts cs js c.loop.left c.in-Ok.ensures.0 c.loop.clock c.loop.agenda c.loop.job (Ok o) c.turn.new.clock c.turn.new.agenda c.turn.new.job) c.in-Some.is c.in-Ok.ensures.1 in
    let count = c.loop.invariant.2 in
    let here = counted ts cs js c.loop.left deeds c.loop.clock c.loop.agenda c.loop.job c.in-Some.rest c.turn.new.clock c.turn.new.agenda c.turn.new.job turn in
    let more = all_more c.loop.invariant.0 deeds in (
      c.loop.invariant.0 ++ deeds ∷ [],
      length-append c.loop.invariant.0 (deeds ∷ []) ∙ ap (λ n. n + 1) c.loop.invariant.1,
      omega arith,
      turns_on ts cs js c.loop.invariant.0 c.args.most c.args.clock.now c.args.agenda.now c.args.job.now c.loop.left c.loop.clock c.loop.agenda c.loop.job
          deeds c.in-Some.rest c.turn.new.clock c.turn.new.agenda c.turn.new.job c.loop.invariant.3 (let some = c.if-left-eq0.false in omega arith) turn,
    )

pub returns : goal.returns
returns g c = loop_ends c.loop.invariant.0 c.loop.left c.loop.clock c.loop.agenda c.loop.job c.loop.invariant.3 c.loop.invariant.2 (refl, refl, refl, inr (inr (omega (arith, c.loop.invariant.1))))
