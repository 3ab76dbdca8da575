use Rattle.std.proofs.Common.{◌≡◌, ◌∷◌, [], arith}
use Rattle.cron_unions.proofs.CoverLemmas.{two_items, without_first, without_second}
use Rattle.cron_unions.proofs.covering.needed.Goals as goal

pub returns-in-len2-clause-same : goal.returns-in-len2-clause-same
returns-in-len2-clause-same c =
    let t = c.one-item.result in
    let s = c.other-item.result in
    let both : c.args.schedules.now ≡ t ∷ s ∷ [] = two_items c.args.schedules.now t s (omega (arith, c.in-len2.len_at_least)) (omega (arith, c.in-len2.len_below)) c.one-item.is c.other-item.is in
    rw both (without_second t s (c.covers.ensures c.if-covers.true))

pub returns-in-len2-2-clause-same : goal.returns-in-len2-2-clause-same
returns-in-len2-2-clause-same c =
    let t = c.one-item-then-schedules-lt3.result in
    let s = c.other-item-then-schedules-lt3.result in
    let both : c.args.schedules.now ≡ t ∷ s ∷ [] = two_items c.args.schedules.now t s (omega (arith, c.in-len2.len_at_least)) (omega (arith, c.in-len2.len_below)) c.one-item-then-schedules-lt3.is c.other-item-then-schedules-lt3.is in
    rw both (without_first s t (c.covers-then-schedules-lt3.ensures c.if-covers-2.true))
