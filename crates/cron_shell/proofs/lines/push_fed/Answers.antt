use Rattle.std.proofs.Common.{◌<◌, ◌≡◌, length, arith, rules}
use Rattle.cron_shell.proofs.ChainLemmas.{fed-chain, unfed-chain}
use Rattle.cron_shell.proofs.lines.push_fed.Goals as goal

pub returns-then-is_empty : goal.returns-then-is_empty
returns-then-is_empty c =
    let none : length c.args.job.now.input.now ≡ 0 = search rules in
    unfed-chain _ _ _ _ c.args.job.now.input.now none c.in_ok-push_timed.ensures c.in_ok-extend_from_slice.ensures.items

pub returns : goal.returns
returns c =
    let some : 0 < length c.args.job.now.input.now = grind arith in
    fed-chain _ _ _ _ _ _ c.args.job.now.input.now some
    c.in_ok-extend_from_slice-2.ensures.items c.in_ok-push_lines.ensures c.in_ok-extend_from_slice-3.ensures.items c.in_ok-push_timed-2.ensures
