use Rattle.std.proofs.Common.{◌∙◌, sym}
use Rattle.cron_kubernetes.proofs.FieldLemmas.{item_added, some_byte}
use Rattle.cron_kubernetes.proofs.fields.add_item.Goals as goal

pub returns-in-Ok : goal.returns-in-Ok
returns-in-Ok c =
    item_added c.args.field c.args.item.now c.args.before c.in-Ok.more (record { bits = c.join-bits.result; star = c.either-star.result })
    (some_byte c.args.item.now (sym c.is_empty.ensures ∙ c.if-is_empty.false)) c.in-Ok.ensures c.join-bits.ensures.fit c.join-bits.ensures.bits c.either-star.ensures
