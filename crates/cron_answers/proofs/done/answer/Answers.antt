use Rattle.std.proofs.Common.{inr, refl}
use Rattle.cron_answers.proofs.done.answer.Goals as goal

pub returns-in-Some-clause-answers : goal.returns-in-Some-clause-answers
returns-in-Some-clause-answers g c =
    inr (
      c.in-Ok.fire,
      c.in-Ok.ensures.text,
      (
        c.noted_at-noted.result,
        c.noted_at-noted.new.files,
        c.noted_at-noted.ensures,
        rw (← c.in-Some.ensures) ((c.say-in-Some.ensures.said, c.say-in-Some.ensures.mark, c.say-in-Some.ensures.calls), refl),
      ),
    )

pub returns-in-None-clause-answers : goal.returns-in-None-clause-answers
returns-in-None-clause-answers g c =
    inr (
      c.in-Ok.fire,
      c.in-Ok.ensures.text,
      (c.noted_at-noted.result, c.noted_at-noted.new.files, c.noted_at-noted.ensures, rw (← c.in-None.ensures) c.note.ensures.notes),
    )
