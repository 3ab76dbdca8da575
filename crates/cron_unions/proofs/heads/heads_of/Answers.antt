use Rattle.std.proofs.Common.{◌≡◌, ◌<◌, ℕ, get_or, length, length-append, refl, subst, sym, arith}
use Rattle.cron_unions.proofs.HeadLemmas.{heads-none, heads-more}
use Rattle.cron_unions.proofs.heads.heads_of.Goals as goal

pub loop-fields-init : goal.loop-fields-init
loop-fields-init g c = rw c.new-heads.ensures (heads-none c.args.schedules.now _, refl)

pub loop-fields-preserved : goal.loop-fields-preserved
loop-fields-preserved g c =
    let size = c.loop-fields.invariant.1 in
    let less : length c.loop-fields.heads.items < length c.args.schedules.now = omega arith in
    let here : c.fields-item.result ≡ get_or c.args.schedules.now (length c.loop-fields.heads.items) c.fields-item.result =
    subst (λ (n : ℕ). c.fields-item.result ≡ get_or c.args.schedules.now n c.fields-item.result) (sym size) c.fields-item.is in
    rw c.push.ensures.items (
      heads-more c.args.schedules.now _ c.loop-fields.heads.items c.fields-item.result c.of.result c.loop-fields.invariant.0 less here c.of.ensures,
      omega (arith, length-append c.loop-fields.heads.items),
    )
