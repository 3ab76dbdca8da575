use Rattle.std.proofs.Common.{◌<◌, arith, length}
use Rattle.std.proofs.lemmas.List.{take_rest}
use Rattle.cron_findings.proofs.PlaceLemmas.{one_more}
use Rattle.cron_findings.proofs.places.characters.Goals as goal

pub loop-at-preserved : goal.loop-at-preserved
loop-at-preserved c =
    let bytes = c.args.bytes.now in
    let less : c.loop-at.at < length bytes = omega arith in
    let step = one_more c.loop-at.left bytes c.loop-at.at less in
    rw (c.left_behind-left.ensures, take_rest bytes c.loop-at.at)
    (omega (arith, step, c.loop-at.invariant.0, c.first_of-count.ensures.value), omega (arith, c.loop-at.invariant.1, c.first_of-count.ensures.within))
