use Rattle.std.proofs.Common.{◌≡◌, length, sym, arith}
use Rattle.std.specs.Char.{is_ascii_digit}
use Rattle.std.proofs.lemmas.List.Sums.{prefix_len_is}
use Rattle.cron_kubernetes.proofs.durations.whole_len.Goals as goal

pub returns-then-not-is_ascii_digit : goal.returns-then-not-is_ascii_digit
returns-then-not-is_ascii_digit c =
    sym (prefix_len_is is_ascii_digit c.args.text.now c.loop-at.at 0 (omega arith) c.loop-at.invariant (λ lt. cc))

pub returns : goal.returns
returns c =
    let past : length c.args.text.now ≡ c.loop-at.at = omega arith in
    sym (prefix_len_is is_ascii_digit c.args.text.now (length c.args.text.now) 0 (omega arith) (λ k lt. c.loop-at.invariant k (omega arith)) (λ lt. absurd (omega arith)))
