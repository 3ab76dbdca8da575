use Rattle.cron_systemd.specs.Texts.{variable_text}
use Rattle.cron_systemd.proofs.ChainLemmas.{three}
use Rattle.cron_systemd.proofs.service.push_variable.Goals as goal

pub returns : goal.returns
unfolding variable_text
returns c = three _ _ _ _ _ _ _ c.in_ok-extend_from_slice.ensures.items c.in_ok-push_assignment.ensures c.in_ok-extend_from_slice-2.ensures.items
