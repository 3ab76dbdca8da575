use Rattle.std.proofs.Common.{refl}
use Rattle.cron_answers.proofs.span.ends_of.Goals as goal

pub returns-in-Ends : goal.returns-in-Ends
returns-in-Ends c = rw c.in-Ends.is c.both_ends.ensures

pub returns-in-Some : goal.returns-in-Some
returns-in-Some c = rw c.in-Whole.is (c.in-Some.it.from, c.in-Some.it.end, c.in-Some.ensures, c.last_before.ensures, c.last_before-in-Some.ensures)

pub returns-in-None : goal.returns-in-None
returns-in-None c = rw c.in-Whole.is (refl, c.in-None.ensures)
