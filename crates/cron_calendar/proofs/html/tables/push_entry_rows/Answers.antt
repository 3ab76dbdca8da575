use Rattle.std.proofs.Common.{List, refl, subst, take_all, arith}
use Rattle.cron_calendar.specs.Pages.{AreRows}
use Rattle.cron_calendar.specs.declared.html.Entry.{Entry}
use Rattle.cron_calendar.proofs.PageLemmas.{next_row}
use Rattle.cron_calendar.proofs.html.tables.push_entry_rows.Goals as goal

pub loop-place-preserved : goal.loop-place-preserved
loop-place-preserved c =
    let (rows, are, page) = c.loop-place.invariant in
    next_row c.args.entries.now c.loop-place.place c.args.page.now.items _ _ rows _ _ c.loop-place-test.true refl are page c.in_ok-push_entry.ensures

pub returns : goal.returns
returns c =
    let (rows, are, page) = c.loop-place.invariant in
    (rows, subst (λ (l : List Entry). AreRows 0 l rows) (take_all c.loop-place.place c.args.entries.now (omega (arith, c.loop-place-test.false))) are, page)
