use Rattle.cron_systemd.proofs.ChainLemmas.{four}
use Rattle.cron_systemd.proofs.timer.push_timer.Goals as goal

pub returns-clause-ok : goal.returns-clause-ok
returns-clause-ok c = four _ _ _ _ _ _ _ _ _ c.in_ok-extend_from_slice.ensures.items c.in_ok-push_calendars.ensures.ok c.in_ok-push_persistent.ensures c.in_ok-extend_from_slice-2.ensures.items
