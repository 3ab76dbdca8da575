use Rattle.cron_kubernetes.specs.Views.{fault_view}
use Rattle.cron_kubernetes.proofs.FieldLemmas.{item_at_fault, last_read}
use Rattle.cron_kubernetes.proofs.fields.read_items.Goals as goal

pub returns-in-Err : goal.returns-in-Err
returns-in-Err c =
    item_at_fault c.args.field c.args.word.now c.loop-more.rest.now c.cut_at.result.0.now c.loop-more.numbers c.cut_at.result.1 (fault_view c.in-Err.fault)
    c.loop-more.invariant.read c.cut_at.ensures.pieces c.in-Err.ensures

pub returns-in-None : goal.returns-in-None
returns-in-None c =
    let cut = rw c.in-None.is at c.cut_at.ensures.pieces in
    last_read c.args.field c.args.word.now c.loop-more.rest.now c.cut_at.result.0.now c.loop-more.numbers c.in-Ok.more c.loop-more.invariant.read cut c.in-Ok.ensures
