use Rattle.std.proofs.Common.{arith}
use Rattle.cron_crontab.proofs.WordLemmas.{no_words, some_byte, word_between, boundary-after}
use Rattle.cron_crontab.proofs.words.next_word.Goals as goal

pub returns-then-start-bytes-clause-words : goal.returns-then-start-bytes-clause-words
returns-then-start-bytes-clause-words c =
    let start = rw c.as_bytes-bytes.ensures.value at c.word_start-start.ensures in
    no_words c.args.text.now (λ k lt. start.before k (omega arith))

pub range-requires-clause-start_boundary : goal.range-requires-clause-start_boundary
range-requires-clause-start_boundary c =
    let start = rw c.as_bytes-bytes.ensures.value at c.word_start-start.ensures in
    λ some. boundary-after c.args.text.now c.word_start-start.result c.utf8.text start.within start.before

pub returns-clause-words : goal.returns-clause-words
returns-clause-words c =
    let start = rw c.as_bytes-bytes.ensures.value at c.word_start-start.ensures in
    let end = rw c.as_bytes-bytes.ensures.value at c.word_end-end.ensures in
    let size = rw c.as_bytes-bytes.ensures.value at c.if-start-bytes.false in
    let some = some_byte c.args.text.now c.word_start-start.result c.word_end-end.result end.further size (start.here size) end.here in
    rw (c.range.ensures.value, c.range_from.ensures.value)
    (word_between c.args.text.now c.word_start-start.result c.word_end-end.result some end.within start.before end.before end.here)
