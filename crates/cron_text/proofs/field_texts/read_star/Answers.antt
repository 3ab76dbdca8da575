use Rattle.cron_text.proofs.Stars.{star_taken}
use Rattle.cron_text.proofs.field_texts.read_star.Goals as goal

pub returns-in-Ok-clause-taken : goal.returns-in-Ok-clause-taken
returns-in-Ok-clause-taken g c =
    let star = rw c.as_bytes.ensures.value at c.in_ok-behind.ensures.star in
    star_taken g.T.TimeUnitField.unit c.args.text.now c.args.place c.in_ok-behind.behind _ _ _ _ star c.empty-all.ensures.members
    c.empty-all.ensures.mark c.in-Ok.ensures.ok
