use Rattle.std.proofs.Common.{Err, refl, ◌∙◌}
use Rattle.cron_answers.proofs.done.note.Goals as goal

pub returns-in-Err-clause-notes : goal.returns-in-Err-clause-notes
returns-in-Err-clause-notes g c =
    let line = c.as_slice.ensures.value ∙ c.stamp_of.ensures in
    (Err c.in-Err.field-0, rw (← line) c.in-Err.ensures, (refl, (c.say-said.result, (c.say-said.ensures.said, c.say-said.ensures.mark, c.say-said.ensures.calls))))
