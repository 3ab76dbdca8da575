use Rattle.cron_tab_agenda.specs.Tabs.{schedules_of}
use Rattle.cron_tab_agenda.proofs.tab_entry.TabEntryCivilSeconds.begin.Goals as goal

pub returns : goal.returns
returns c = λ e. c.begin.ensures (record { schedules = record { ref_ptr = (0, 0); now = schedules_of e } })
