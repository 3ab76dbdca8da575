use Rattle.std.proofs.Common.{get_or, ◌∙◌, sym, arith}
use Rattle.std.proofs.lemmas.Bool.{true≢false}
use Rattle.std.proofs.lemmas.Int.Digits.{digits_value_more}
use Rattle.cron_crontab.proofs.NumberLemmas.{all_more, digit_at, digit_is, few_before}
use Rattle.cron_crontab.proofs.numbers.lone_digits.Goals as goal

pub overflow_mul-value : goal.overflow_mul-value
overflow_mul-value c =
    let small = few_before c.args.text.now c.loop-digit.digit-index c.loop-digit.invariant.digits (omega arith) (omega arith) in
    let is = c.loop-digit.invariant.is in
    omega arith

pub overflow_add-value : goal.overflow_add-value
overflow_add-value c =
    let small = few_before c.args.text.now c.loop-digit.digit-index c.loop-digit.invariant.digits (omega arith) (omega arith) in
    let is = c.loop-digit.invariant.is in
    let here = sym c.is_ascii_digit.ensures.value ∙ c.if-not-is_ascii_digit.false in
    let digit = digit_is (get_or c.args.text.now c.loop-digit.digit-index 0) here in
    omega arith

pub loop-digit-preserved : goal.loop-digit-preserved
loop-digit-preserved c =
    let more = digits_value_more 10 c.args.text.now c.loop-digit.digit-index c.loop-digit-test.true in
    let is = c.loop-digit.invariant.is in
    let here = sym c.is_ascii_digit.ensures.value ∙ c.if-not-is_ascii_digit.false in
    let digit = digit_is (get_or c.args.text.now c.loop-digit.digit-index 0) here in
    record { digits = all_more c.args.text.now c.loop-digit.digit-index c.loop-digit-test.true c.loop-digit.invariant.digits here; is = cc }

pub returns-then-not-is_ascii_digit : goal.returns-then-not-is_ascii_digit
returns-then-not-is_ascii_digit c = λ some all.
    let here = sym c.is_ascii_digit.ensures.value ∙ c.if-not-is_ascii_digit.true in
    absurd (true≢false (sym (digit_at c.args.text.now c.loop-digit.digit-index all c.loop-digit-test.true) ∙ here))
