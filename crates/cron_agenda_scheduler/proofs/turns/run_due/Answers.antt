use Rattle.std.proofs.Common.{◌+◌, true, false, [], ◌∷◌, ◌++◌, map, inl, inr, refl, subst, ap, ◌∙◌, length-append, arith}
use Rattle.std.specs.Prelude.{Ok}
use Rattle.jiff.specs.Words.{plain_zone}
use Rattle.cron_agenda_scheduler.specs.Inner.Picks.{Picks}
use Rattle.cron_agenda_scheduler.specs.Late.{tables}
use Rattle.cron_agenda_scheduler.specs.Turns.{Passed, Ran, job_calls}
use Rattle.cron_agenda_scheduler.proofs.TurnLemmas.{done_on, picked_as, runs_more, runs_on}
use Rattle.cron_agenda_scheduler.proofs.turns.run_due.Goals as goal
use Rattle.cron_agenda_scheduler.proofs.turns.run_due.Goals.{then-pick+in_default-run, else-pick}

pub returns-then-left-eq0 : goal.returns-then-left-eq0
returns-then-left-eq0 g c = (
  c.loop.invariant.0,
  record {
    agenda = c.loop.agenda;
    job = c.loop.job;
    are_done = c.loop.invariant.3;
    had_runs = c.loop.invariant.4;
    ends = (let count = c.loop.invariant.2 in let none = c.if-left-eq0.true in omega arith, refl, inr (refl, inl refl));
  },
)

pub returns-in_default : goal.returns-in_default
returns-in_default g c =
    let ts = tables g.T.CivilSeconds.has g.T.HasLateness.lateness (map plain_zone c.args.zones.now) in (
      c.loop.invariant.0,
      record {
        agenda = c.loop.agenda;
        job = c.loop.job;
        are_done = c.loop.invariant.3;
        had_runs = c.loop.invariant.4;
        ends = (c.loop.invariant.2, refl, inl (subst (λ o. Picks ts c.args.now.nanosecond c.loop.agenda (Ok o) c.take_due.new.agenda) c.in_default.is c.in-Ok.ensures));
      },
    )

pub returns-in-Err : goal.returns-in-Err
returns-in-Err g c = (
  c.loop.invariant.0,
  record {
    agenda = c.loop.agenda;
    job = c.loop.job;
    are_done = c.loop.invariant.3;
    had_runs = c.loop.invariant.4;
    ends = (let count = c.loop.invariant.2 in let some = c.if-left-eq0.false in omega arith, refl, c.in-Err.ensures);
  },
)

pub returns-in-Err-run : goal.returns-in-Err-run
returns-in-Err-run g c =
    let ts = tables g.T.CivilSeconds.has g.T.HasLateness.lateness (map plain_zone c.args.zones.now) in (
      c.loop.invariant.0,
      record {
        agenda = c.loop.agenda;
        job = c.loop.job;
        are_done = c.loop.invariant.3;
        had_runs = c.loop.invariant.4;
        ends = (
          let count = c.loop.invariant.2 in let some = c.if-left-eq0.false in omega arith,
          c.in-Some.pick.due,
          c.take_due.new.agenda,
          picked_as ts c.args.now.nanosecond c.loop.agenda _ c.in-Some.pick c.take_due.new.agenda true c.in-Some.is c.if-pick.true c.in-Ok.ensures,
          c.in-Err-run.ensures,
        );
      },
    )

pub loop-preserved : goal.loop-preserved
loop-preserved g c =
    let ts = tables g.T.CivilSeconds.has g.T.HasLateness.lateness (map plain_zone c.args.zones.now) in
    let js = job_calls g.J.AgendaJob.runs g.J.AgendaJob.passes in
    let ds = c.loop.invariant.0 in
    let f = c.in-Some.pick.due in
    let count = c.loop.invariant.2 in
    let some = c.if-left-eq0.false in
    let ran = runs_more ds (Ran f) in
    let passed = runs_more ds (Passed f) in
    elim c.if-pick.branch [
      | then-pick+in_default-run w ↦ rw (w.left-is, w.agenda-is, w.job-is) (
        ds ++ Ran f ∷ [],
        length-append ds (Ran f ∷ []) ∙ ap (λ n. n + 1) c.loop.invariant.1,
        omega arith,
        done_on ts js c.args.now.nanosecond ds c.args.agenda.now c.args.job.now c.loop.agenda c.loop.job (Ran f) w.run.new.agenda w.run.new.self
            c.loop.invariant.3 (
              c.take_due.new.agenda,
              picked_as ts c.args.now.nanosecond c.loop.agenda _ c.in-Some.pick c.take_due.new.agenda true c.in-Some.is w.if-pick.true c.in-Ok.ensures,
              w.in_default-run.ensures,
            ),
        runs_on c.args.most c.loop.left ds (Ran f) count (omega (arith, some)) c.loop.invariant.4,
      )
      | else-pick w ↦ rw (w.left-is, w.agenda-is, w.job-is) (
        ds ++ Passed f ∷ [],
        length-append ds (Passed f ∷ []) ∙ ap (λ n. n + 1) c.loop.invariant.1,
        omega arith,
        done_on ts js c.args.now.nanosecond ds c.args.agenda.now c.args.job.now c.loop.agenda c.loop.job (Passed f) c.take_due.new.agenda w.pass_over.new.self
            c.loop.invariant.3 (
              picked_as ts c.args.now.nanosecond c.loop.agenda _ c.in-Some.pick c.take_due.new.agenda false c.in-Some.is w.if-pick.false c.in-Ok.ensures,
              w.pass_over.ensures,
            ),
        runs_on c.args.most c.loop.left ds (Passed f) count (omega (arith, some)) c.loop.invariant.4,
      )
    ]

pub returns : goal.returns
returns g c = (
  c.loop.invariant.0,
  record {
    agenda = c.loop.agenda;
    job = c.loop.job;
    are_done = c.loop.invariant.3;
    had_runs = c.loop.invariant.4;
    ends = (c.loop.invariant.2, refl, inr (refl, inr (omega (arith, c.loop.invariant.1))));
  },
)
