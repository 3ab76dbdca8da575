use Rattle.cron_c.proofs.due_text.cron_c_due_format.Goals as goal

pub returns : goal.returns
returns c = (c.format_due.result, c.format_due.ensures, c.code.ensures)
