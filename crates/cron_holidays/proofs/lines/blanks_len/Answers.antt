use Rattle.std.proofs.Common.{◌≡◌, length, sym, arith}
use Rattle.std.proofs.lemmas.List.Sums.{prefix_len_is}
use Rattle.cron_tab_lines.specs.Bytes.{is_blank}
use Rattle.cron_holidays.proofs.lines.blanks_len.Goals as goal

pub returns-then-not-is_blank-clause-is : goal.returns-then-not-is_blank-clause-is
returns-then-not-is_blank-clause-is c =
    sym (prefix_len_is is_blank c.args.text.now c.loop-at.at 0 (omega arith) c.loop-at.invariant (λ lt. cc))

pub returns-clause-is : goal.returns-clause-is
returns-clause-is c =
    let past : length c.args.text.now ≡ c.loop-at.at = omega arith in
    sym (prefix_len_is is_blank c.args.text.now (length c.args.text.now) 0 (omega arith) (λ k lt. c.loop-at.invariant k (omega arith)) (λ lt. absurd (omega arith)))
