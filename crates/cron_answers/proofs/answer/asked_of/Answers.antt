use Rattle.std.proofs.Common.{refl}
use Rattle.jiff.specs.Words.{plain_zone}
use Rattle.cron_answers.proofs.AnswerLemmas.{no_span}
use Rattle.cron_answers.proofs.answer.asked_of.Goals as goal

pub returns-in-Some : goal.returns-in-Some
returns-in-Some c = rw c.in-Next.is (c.in-Some.ensures, refl)

pub returns-in-None : goal.returns-in-None
returns-in-None c = rw c.in-Next.is (refl, c.in-None.ensures)

pub returns-in-Ok : goal.returns-in-Ok
returns-in-Ok c = rw c.in-Between.is c.in-Ok.ensures

pub returns-in-Err : goal.returns-in-Err
returns-in-Err c =
    rw c.in-Between.is (no_span c.in-Between.span (plain_zone c.args.zone.now) c.args.now.nanosecond c.in-Err.trouble c.in-Err.ensures)

pub returns-in-Some-instant_of : goal.returns-in-Some-instant_of
returns-in-Some-instant_of c = rw c.in-Back.is (c.in-Some-instant_of.ensures, refl)

pub returns-in-None-instant_of : goal.returns-in-None-instant_of
returns-in-None-instant_of c = rw c.in-Back.is (refl, c.in-None-instant_of.ensures)
