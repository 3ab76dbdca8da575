use Rattle.std.proofs.Common.{◌≡◌, Some, arith, rules}
use Rattle.std.specs.Prelude.{slice_get}
use Rattle.std.proofs.lemmas.Int.{ints}
use Rattle.cron_c.proofs.AgendaLemmas.{first-due, none-late, none-left}
use Rattle.cron_c.proofs.agenda.due_place.Goals as goal
use Rattle.cron_c.proofs.agenda.due_place.Goals.{then-first-now-via-then-first-now, then-first-now-via-else-first-now+then-first-ge-NEVER}

pub returns-then-first-now : goal.returns-then-first-now
returns-then-first-now c =
    let begins : slice_get c.args.entries.now 0 ≡ Some c.in-Some.first.now = search rules in
    elim c.then-first-now.branch [
      | then-first-now-via-then-first-now w ↦ none-late c.args.entries.now c.in-Some.first.now c.args.now begins (omega (arith, ints, w.if-first-now.true))
      | then-first-now-via-else-first-now+then-first-ge-NEVER w ↦
          none-left c.args.entries.now c.in-Some.first.now c.args.now begins (omega (arith, ints, w.if-first-ge-NEVER.true))
    ]

pub returns : goal.returns
returns c =
    let begins : slice_get c.args.entries.now 0 ≡ Some c.in-Some.first.now = search rules in
    first-due c.args.entries.now c.in-Some.first.now c.args.now begins (omega (arith, ints, c.if-first-now.false))
    (omega (arith, ints, c.if-first-ge-NEVER.false))
