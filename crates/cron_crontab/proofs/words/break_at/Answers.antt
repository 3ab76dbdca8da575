use Rattle.std.proofs.Common.{◌≡◌, ◌∙◌, length, sym, ap, arith}
use Rattle.std.specs.Prelude.{not}
use Rattle.std.proofs.lemmas.List.Sums.{prefix_len_is}
use Rattle.cron_crontab.specs.Crontab.{is_break}
use Rattle.cron_crontab.proofs.words.break_at.Goals as goal

pub returns-then-is_break : goal.returns-then-is_break
returns-then-is_break c =
    sym (prefix_len_is (λ b. not (is_break b)) c.args.text.now c.loop-at.at 0 (omega arith) c.loop-at.invariant
    (λ lt. ap not (sym c.is_break.ensures ∙ c.if-is_break.true)))

pub returns : goal.returns
returns c =
    let past : length c.args.text.now ≡ c.loop-at.at = omega arith in
    sym (prefix_len_is (λ b. not (is_break b)) c.args.text.now (length c.args.text.now) 0 (omega arith) (λ k lt. c.loop-at.invariant k (omega arith)) (λ lt. absurd (omega arith)))
