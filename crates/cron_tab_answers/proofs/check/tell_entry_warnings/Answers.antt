use Rattle.std.proofs.Common.{Ok, ap, ◌∙◌}
use Rattle.cron_tab_answers.proofs.CheckLemmas.{of_entry}
use Rattle.cron_tab_answers.proofs.check.tell_entry_warnings.Goals as goal

pub returns : goal.returns
returns c =
    of_entry c.args.wanted.now c.args.line.now.number c.args.line.now.read c.in-Entry.entry c.text_of-fields.result.now _ _ _
    (c.in-Ok.is ∙ ap Ok c.in-Entry.is) c.text_of-fields.ensures c.in_ok-tell_warnings.ensures
