use Rattle.cron_c.proofs.union_dues.cron_c_union_due_past.Goals as goal

pub returns : goal.returns
returns c = (c.due_past.result, c.due_past.ensures, c.code.ensures)
