use Rattle.cron_c.proofs.history_dues.cron_c_history_due_past.Goals as goal

pub returns : goal.returns
returns c = (c.due_past.result, rw c.fields_of.ensures at c.due_past.ensures, c.code.ensures)
