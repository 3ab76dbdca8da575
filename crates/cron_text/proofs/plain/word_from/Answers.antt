use Rattle.std.proofs.Common.{◌≡◌, ℕ, ◌+◌, ◌<◌, ◌≤◌, true, false, get_or, length, sym, ◌∙◌, arith}
use Rattle.std.specs.List.{slice_range}
use Rattle.cron_units.specs.Keys.{IsKey}
use Rattle.cron_text.specs.Tokens.{is_letter}
use Rattle.cron_text.proofs.Digits.{one_more}
use Rattle.cron_text.proofs.PlainWords.{key_first, key_next, word_here}
use Rattle.cron_text.proofs.plain.word_from.Goals as goal

pub loop-end-init : goal.loop-end-init
loop-end-init c = record {
  before = λ k g l. absurd (omega (arith, g, l));
  keyed = key_first c.args.text.now c.args.at c.with_letter-key.result c.if-at-text.false c.with_letter-key.ensures;
}

pub returns-then-not-is_letter-2 : goal.returns-then-not-is_letter-2
returns-then-not-is_letter-2 c =
    let text = c.args.text.now in
    let now = c.loop-end.invariant in
    let letter : is_letter (get_or text c.args.at 0) ≡ true = sym c.is_letter.ensures ∙ c.if-not-is_letter.false in
    let stop : is_letter (get_or text c.loop-end.end 0) ≡ false = sym c.is_letter-in-loop-end.ensures ∙ c.if-not-is_letter-2.true in
    word_here text c.args.at c.loop-end.end c.loop-end.key c.if-at-text.false letter (omega (arith, c.loop-end-test.true)) c.loop-end.auto.end now.before
    (λ _. stop) now.keyed

pub loop-end-preserved : goal.loop-end-preserved
loop-end-preserved c =
    let text = c.args.text.now in
    let now = c.loop-end.invariant in
    let seen : is_letter (get_or text c.loop-end.end 0) ≡ true = sym c.is_letter-in-loop-end.ensures ∙ c.if-not-is_letter-2.false in
    record {
      before = one_more (λ k. is_letter (get_or text k 0) ≡ true) (c.args.at + 1) c.loop-end.end now.before seen;
      keyed = key_next text c.args.at c.loop-end.end c.loop-end.key c.with_letter-key-in-loop-end.result (omega (arith, c.loop-end.auto.end))
          c.loop-end-test.true now.keyed c.with_letter-key-in-loop-end.ensures;
    }

pub returns : goal.returns
returns c =
    let text = c.args.text.now in
    let now = c.loop-end.invariant in
    let letter : is_letter (get_or text c.args.at 0) ≡ true = sym c.is_letter.ensures ∙ c.if-not-is_letter.false in
    let further : c.args.at + 1 ≤ length text = omega (arith, c.if-at-text.false) in
    let most = c.loop-end.auto.end-end further in
    let end : c.loop-end.end ≡ length text = omega (arith, c.loop-end-test.false, most) in
    let stood : (k : ℕ) → c.args.at + 1 ≤ k → k < length text → is_letter (get_or text k 0) ≡ true = rw end at now.before in
    let keyed : IsKey (slice_range text c.args.at (length text)) c.loop-end.key = rw end at now.keyed in
    word_here text c.args.at (length text) c.loop-end.key c.if-at-text.false letter (omega arith) further stood
    (λ more. absurd (omega (arith, more))) keyed
