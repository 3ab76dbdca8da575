use Rattle.std.proofs.Common.{◌≡◌, length, sym, arith}
use Rattle.cron_kubernetes.specs.Durations.{is_numeral}
use Rattle.std.proofs.lemmas.List.Sums.{prefix_len_is}
use Rattle.cron_kubernetes.proofs.durations.number_len.Goals as goal

pub returns-then-not-is_numeral : goal.returns-then-not-is_numeral
returns-then-not-is_numeral c =
    sym (prefix_len_is is_numeral c.args.text.now c.loop-at.at 0 (omega arith) c.loop-at.invariant (λ lt. cc))

pub returns : goal.returns
returns c =
    let past : length c.args.text.now ≡ c.loop-at.at = omega arith in
    sym (prefix_len_is is_numeral c.args.text.now (length c.args.text.now) 0 (omega arith) (λ k lt. c.loop-at.invariant k (omega arith)) (λ lt. absurd (omega arith)))
