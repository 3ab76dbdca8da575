use Rattle.cron_kubernetes.specs.Inner.Reading.{base_view}
use Rattle.cron_kubernetes.proofs.ItemLemmas.{with_two_steps}
use Rattle.cron_kubernetes.proofs.items.read_item.Goals as goal

pub returns-in-Some-more : goal.returns-in-Some-more
returns-in-Some-more c =
    let cut = rw c.in-Some.is at c.cut_at.ensures.pieces in
    let behind = rw c.in-Some-more.is at c.cut_at-2.ensures.pieces in
    with_two_steps c.args.field c.args.text.now c.cut_at.result.0.now c.in-Some.rest.now c.cut_at-2.result.0.now c.in-Some-more.field-0.now
    (base_view c.in_ok-base.base) cut behind c.in_ok-base.ensures.base
