use Rattle.std.proofs.Common.{arith, ◌≤◌}
use Rattle.cron_moments.specs.Calendar.{length_of}
use Rattle.cron_moments.proofs.MarchLemmas.{number_on}
use Rattle.cron_moments.proofs.calendar.KnownMonth.number_of.Goals as goal

pub overflow_add-result : goal.overflow_add-result
overflow_add-result c =
    let m = c.self.invariant in
    let last : c.args.day ≤ length_of c.self.inside.month = rw c.self.view_is c.requires.1 in
    let on = number_on c.self.inside.month c.args.day m.0 m.1 (omega (arith, c.requires.0)) last in
    omega (arith, m, on, c.self.view_is)

pub returns-clause-number : goal.returns-clause-number
returns-clause-number c =
    let m = c.self.invariant in
    let last : c.args.day ≤ length_of c.self.inside.month = rw c.self.view_is c.requires.1 in
    let on = number_on c.self.inside.month c.args.day m.0 m.1 (omega (arith, c.requires.0)) last in
    rw (← c.self.view_is) (omega (arith, m, on))

pub returns-clause-bound : goal.returns-clause-bound
returns-clause-bound c =
    let m = c.self.invariant in
    let last : c.args.day ≤ length_of c.self.inside.month = rw c.self.view_is c.requires.1 in
    let on = number_on c.self.inside.month c.args.day m.0 m.1 (omega (arith, c.requires.0)) last in
    omega (arith, m, on, c.self.view_is)
