use Rattle.std.proofs.Common.{◌++◌, ap, ◌∙◌, append_assoc, arith}
use Rattle.std.proofs.lemmas.Result.{err_from_is_err_and}
use Rattle.cron_ics.proofs.BodyLemmas.{more_fires, no_more, one_more, refused}
use Rattle.cron_ics.proofs.calendar.push_body.Goals as goal

pub loop-place-preserved : goal.loop-place-preserved
loop-place-preserved c =
    let (pushed, page, makes, count, few) = c.loop-place.invariant in
    let (own, events, more) = c.in_ok-count.ensures.pushed in
    let w = c.args.wanted.now in
    let es = c.args.entries.now in
    let i = c.loop-place.place in
    let e = c.index-entries-place.result in
    let within = c.loop-place-test.true in
    let is = c.index-entries-place.is in (
      pushed ++ own,
      more ∙ (ap (λ l. l ++ own) page ∙ append_assoc _ pushed own),
      one_more w es i e pushed own within is events makes,
      omega (arith, count, more_fires w es i e within is, c.in_ok-count.ensures.count.0),
      omega (arith, few, c.in_ok-count.ensures.count.1),
    )

pub returns-clause-pushed : goal.returns-clause-pushed
returns-clause-pushed c =
    let (pushed, page, makes, count, few) = c.loop-place.invariant in
    (pushed, no_more c.args.wanted.now c.args.entries.now c.loop-place.place pushed c.loop-place-test.false makes, page)

pub returns-in_err-count-clause-refused : goal.returns-in_err-count-clause-refused
returns-in_err-count-clause-refused c =
    let (pushed, page, makes, count, few) = c.loop-place.invariant in
    let why = refused c.args.wanted.now c.args.entries.now c.loop-place.place c.loop-place.count _ c.index-entries-place.result c.in_err-count.field-0.0
    c.loop-place-test.true c.index-entries-place.is count few (omega (arith, few)) c.in_err-count.ensures.many
    c.in_err-count.ensures.some in
    let p = err_from_is_err_and c.from_residual.result c.from_residual.ensures.1 in
    rw (p.1, p.2) why
