use Rattle.cron_crontab.proofs.NumberLemmas.{front_boundary}
use Rattle.cron_crontab.proofs.numbers.cut_front.Goals as goal

pub range-requires-clause-end_boundary : goal.range-requires-clause-end_boundary
range-requires-clause-end_boundary c =
    let is = rw c.as_bytes.ensures.value at c.front_len-end.ensures in
    front_boundary c.args.text.now c.front_len-end.result c.utf8.text is

pub range_from-requires : goal.range_from-requires
range_from-requires c =
    let is = rw c.as_bytes.ensures.value at c.front_len-end.ensures in
    λ some. front_boundary c.args.text.now c.front_len-end.result c.utf8.text is
