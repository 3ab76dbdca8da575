use Rattle.std.proofs.Common.{arith}
use Rattle.cron_crontab.proofs.WordLemmas.{boundary-break}
use Rattle.cron_crontab.proofs.words.word_behind_break.Goals as goal

pub range_from-requires : goal.range_from-requires
range_from-requires c =
    let is = rw c.as_bytes.ensures.value at c.break_at-end.ensures in
    λ some. boundary-break c.args.text.now c.break_at-end.result c.utf8.text is (omega arith)
