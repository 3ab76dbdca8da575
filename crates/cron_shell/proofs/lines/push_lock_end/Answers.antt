use Rattle.cron_shell.proofs.ChainLemmas.{end-chain}
use Rattle.cron_shell.proofs.lines.push_lock_end.Goals as goal

pub returns : goal.returns
returns c =
    rw c.in-Some.is (end-chain _ _ _ _ _ _ _ _ c.in_ok-extend_from_slice.ensures.items c.in_ok-push_word.ensures.quoted
    c.in_ok-extend_from_slice-2.ensures.items c.in_ok-push_word-2.ensures.quoted)
