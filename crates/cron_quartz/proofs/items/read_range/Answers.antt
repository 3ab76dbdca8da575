use Rattle.cron_quartz.specs.Views.{base_view, end_view}
use Rattle.cron_quartz.proofs.ItemLemmas.{third_number}
use Rattle.cron_quartz.proofs.items.read_range.Goals as goal

pub returns-in-Some-more-clause-base : goal.returns-in-Some-more-clause-base
returns-in-Some-more-clause-base g c =
    let cut = rw c.in-Some.is at c.cut_at.ensures.pieces in
    let behind = rw c.in-Some-more.is at c.cut_at-2.ensures.pieces in
    third_number g.T.TimeUnitField.unit c.args.text.now c.cut_at.result.0.now c.in-Some.rest.now c.cut_at-2.result.0.now c.in-Some-more.field-0.now
    (end_view c.in_ok-first.first) (end_view c.in_ok-last.last) (base_view c.in_ok-range.range) cut behind c.in_ok-first.ensures.end c.in_ok-last.ensures.end
    c.in_ok-range.ensures.base
