use Rattle.std.proofs.Common.{[], ◌++◌, sym, append-nil, ap, ◌∙◌, append_assoc}
use Rattle.cron_ics.proofs.PageLemmas.{no_more, one_more}
use Rattle.cron_ics.proofs.pages.push_spans.Goals as goal

pub loop-span-init : goal.loop-span-init
loop-span-init c = ([], sym (append-nil _), λ rest are. are)

pub loop-span-preserved : goal.loop-span-preserved
loop-span-preserved c =
    let (pushed, page, makes) = c.loop-span.invariant in
    let (own, event, more) = c.in_ok-push_event.ensures in (
      pushed ++ own,
      more ∙ (ap (λ l. l ++ own) page ∙ append_assoc _ pushed own),
      one_more c.args.series.now c.args.spans.now c.loop-span.span-index c.span-item.result pushed own c.loop-span-test.true c.span-item.is event makes,
    )

pub returns : goal.returns
returns c =
    let (pushed, page, makes) = c.loop-span.invariant in
    (pushed, no_more c.args.series.now c.args.spans.now c.loop-span.span-index pushed c.loop-span-test.false makes, page)
