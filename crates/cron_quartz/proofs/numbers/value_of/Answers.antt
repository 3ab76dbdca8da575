use Rattle.std.proofs.Common.{get_or, arith}
use Rattle.std.proofs.lemmas.Int.Digits.{digits_value_more}
use Rattle.cron_crontab.proofs.NumberLemmas.{digit_at, digit_is}
use Rattle.cron_quartz.proofs.NumberLemmas.{small_before}
use Rattle.cron_quartz.proofs.numbers.value_of.Goals as goal

pub overflow_mul-value : goal.overflow_mul-value
overflow_mul-value c =
    let small = small_before c.args.digits.now c.loop-digit.digit-index c.requires.digits (omega arith) c.requires.few in
    let is = c.loop-digit.invariant in
    omega arith

pub overflow_add-value : goal.overflow_add-value
overflow_add-value c =
    let small = small_before c.args.digits.now c.loop-digit.digit-index c.requires.digits (omega arith) c.requires.few in
    let is = c.loop-digit.invariant in
    let digit = digit_is (get_or c.args.digits.now c.loop-digit.digit-index 0) (digit_at c.args.digits.now c.loop-digit.digit-index c.requires.digits (omega arith)) in
    omega arith

pub loop-digit-preserved : goal.loop-digit-preserved
loop-digit-preserved c =
    let more = digits_value_more 10 c.args.digits.now c.loop-digit.digit-index c.loop-digit-test.true in
    let is = c.loop-digit.invariant in
    let digit = digit_is (get_or c.args.digits.now c.loop-digit.digit-index 0) (digit_at c.args.digits.now c.loop-digit.digit-index c.requires.digits (omega arith)) in
    cc
