use Rattle.std.proofs.Common.{◌≡◌, ℕ, ◌+◌, ◌≤◌, ◌<◌, true, false, get_or, length, sym, ◌∙◌, subst, arith}
use Rattle.cron_text.specs.Inner.Numbers.{IsCapped}
use Rattle.cron_text.specs.Tokens.{is_digit}
use Rattle.cron_text.proofs.Digits.{one_more, value_more}
use Rattle.cron_text.proofs.Places.{digits_between, digits_token}
use Rattle.cron_text.proofs.symbols.digits_at.Goals as goal

pub returns-then-not-is_digit : goal.returns-then-not-is_digit
returns-then-not-is_digit c =
    let text = c.args.text.now in
    let end = c.loop-end.end in
    let (before, capped) = c.loop-end.invariant in
    let stop : is_digit (get_or text end 0) ≡ false = sym c.is_digit.ensures ∙ c.if-not-is_digit.true in
    let within : end ≤ length text = omega (arith, c.loop-end-test.true) in
    let further : c.args.at + 1 ≤ end = omega (arith, c.loop-end.auto.end) in
    record {
      further = omega (arith, further);
      within = within;
      digits = digits_between text c.args.at end c.requires.digit within further before;
      value_is = capped;
      rest = digits_token text c.args.at end c.requires.within c.requires.digit within further before (λ _. stop);
    }

pub loop-end-preserved : goal.loop-end-preserved
loop-end-preserved c =
    let text = c.args.text.now in
    let end = c.loop-end.end in
    let (before, capped) = c.loop-end.invariant in
    let seen : is_digit (get_or text end 0) ≡ true = sym c.is_digit.ensures ∙ c.if-not-is_digit.false in
    let longer = c.with_digit-value.ensures _ capped in (
      one_more (λ k. is_digit (get_or text k 0) ≡ true) (c.args.at + 1) end before seen,
      subst (λ n. IsCapped n c.with_digit-value.result) (sym (value_more text c.args.at end (omega (arith, c.loop-end.auto.end)) c.loop-end-test.true)) longer,
    )

pub returns : goal.returns
returns c =
    let text = c.args.text.now in
    let (before, capped) = c.loop-end.invariant in
    let further : c.args.at + 1 ≤ length text = omega (arith, c.requires.within) in
    let most = c.loop-end.auto.end-end further in
    let end : c.loop-end.end ≡ length text = omega (arith, c.loop-end-test.false, most) in
    let stood : (k : ℕ) → c.args.at + 1 ≤ k → k < length text → is_digit (get_or text k 0) ≡ true = rw end at before in
    let within : length text ≤ length text = omega arith in
    let spelled = rw end at capped in
    record {
      further = omega (arith, further);
      within = within;
      digits = digits_between text c.args.at (length text) c.requires.digit within further stood;
      value_is = spelled;
      rest = digits_token text c.args.at (length text) c.requires.within c.requires.digit within further stood (λ more. absurd (omega (arith, more)));
    }
