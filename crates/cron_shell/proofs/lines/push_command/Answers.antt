use Rattle.cron_shell.proofs.ChainLemmas.{command-chain}
use Rattle.cron_shell.proofs.lines.push_command.Goals as goal

pub returns : goal.returns
returns c = command-chain _ _ _ _ _ _ _ _ _ _ _ c.in_ok-extend_from_slice.ensures.items c.in_ok-push_variables.ensures c.in_ok-push_word.ensures.quoted c.in_ok-push_word-2.ensures.quoted c.in_ok-push_word-3.ensures.quoted
