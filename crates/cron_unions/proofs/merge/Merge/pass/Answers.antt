use Rattle.std.proofs.Common.{◌≡◌, length}
use Rattle.cron_unions.specs.Inner.Merges.{schedules_of}
use Rattle.cron_unions.proofs.HeadLemmas.{heads-come, refill_whole}
use Rattle.cron_unions.proofs.MergeLemmas.{stands_at}
use Rattle.cron_unions.proofs.merge.Merge.pass.Goals as goal

pub returns-clause-stands : goal.returns-clause-stands
returns-clause-stands c = λ high.
    let m = c.args.self.now in
    let next = c.pass_heads-next.result in
    let hs = c.pass_heads-next.new.heads in
    let near = rw c.len.ensures.value at c.pass_heads-next.ensures.nearest in
    let heads = rw c.len.ensures.value at c.pass_heads-next.ensures.heads in
    let long : length hs ≡ length m.heads.items = rw c.as_mut_slice.ensures.value at c.pass_heads-next.ensures.size in
    rw (refill_whole m.heads.items hs long)
    (stands_at m next hs c.requires.stands long (heads-come (schedules_of m) m.from next hs heads near high))
