use Rattle.std.proofs.Common.{◌≡◌, ◌∙◌, length, sym, ap, arith}
use Rattle.std.specs.Prelude.{not}
use Rattle.cron_kubernetes.specs.Durations.{is_numeral}
use Rattle.std.proofs.lemmas.List.Sums.{prefix_len_is}
use Rattle.cron_kubernetes.proofs.durations.unit_len.Goals as goal

pub returns-then-is_numeral : goal.returns-then-is_numeral
returns-then-is_numeral c =
    sym (prefix_len_is (λ c. not (is_numeral c)) c.args.text.now c.loop-at.at 0 (omega arith) c.loop-at.invariant (λ lt. ap not (sym c.is_numeral.ensures ∙ c.if-is_numeral.true)))

pub returns : goal.returns
returns c =
    let past : length c.args.text.now ≡ c.loop-at.at = omega arith in
    sym (prefix_len_is (λ c. not (is_numeral c)) c.args.text.now (length c.args.text.now) 0 (omega arith) (λ k lt. c.loop-at.invariant k (omega arith)) (λ lt. absurd (omega arith)))
