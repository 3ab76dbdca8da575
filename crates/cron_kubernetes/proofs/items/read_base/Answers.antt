use Rattle.std.proofs.Common.{◌∙◌, sym}
use Rattle.cron_kubernetes.proofs.ItemLemmas.{third_number}
use Rattle.cron_kubernetes.proofs.items.read_base.Goals as goal

pub returns-in-Some-more-clause-base : goal.returns-in-Some-more-clause-base
returns-in-Some-more-clause-base c =
    let cut = rw c.in-Some.is at c.cut_at.ensures.pieces in
    let behind = rw c.in-Some-more.is at c.cut_at-2.ensures.pieces in
    third_number c.args.field c.args.text.now c.cut_at.result.0.now c.in-Some.rest.now c.cut_at-2.result.0.now c.in-Some-more.field-0.now c.in_ok-first.first
    cut behind (sym c.is_star.ensures ∙ c.if-is_star.false) c.in_ok-first.ensures.number
