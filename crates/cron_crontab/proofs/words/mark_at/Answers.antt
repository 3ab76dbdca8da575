use Rattle.std.proofs.Common.{◌≡◌, length, sym, ap, arith}
use Rattle.std.specs.Prelude.{not, ◌==◌}
use Rattle.std.proofs.lemmas.Bool.{eq-eqb}
use Rattle.std.proofs.lemmas.List.Sums.{prefix_len_is}
use Rattle.cron_crontab.proofs.words.mark_at.Goals as goal

pub returns-then-byte-mark : goal.returns-then-byte-mark
returns-then-byte-mark c =
    sym (prefix_len_is (λ b. not (b == c.args.mark)) c.args.text.now c.loop-at.at 0 (omega arith) c.loop-at.invariant (λ lt. ap not (eq-eqb _ _ c.if-byte-mark.true)))

pub returns : goal.returns
returns c =
    let past : length c.args.text.now ≡ c.loop-at.at = omega arith in
    sym (prefix_len_is (λ b. not (b == c.args.mark)) c.args.text.now (length c.args.text.now) 0 (omega arith) (λ k lt. c.loop-at.invariant k (omega arith)) (λ lt. absurd (omega arith)))
