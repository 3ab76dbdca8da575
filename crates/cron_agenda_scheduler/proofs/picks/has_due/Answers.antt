use Rattle.std.proofs.Common.{◌≡◌, sym, ap, ◌∙◌, arith, to_z, of_z}
use Rattle.std.specs.Prelude.{int_le}
use Rattle.std.specs.Int.{w128}
use Rattle.std.proofs.lemmas.Int.{ints}
use Rattle.cron_agenda_scheduler.proofs.LateLemmas.{due_again, not_due}
use Rattle.cron_agenda_scheduler.proofs.picks.has_due.Goals as goal

pub returns-in-Some : goal.returns-in-Some
returns-in-Some g c =
    let fire : to_z w128 (of_z w128 c.as_nanosecond.result) ≡ c.timestamp.result.nanosecond =
    omega (arith, ints, c.as_nanosecond.ensures, c.timestamp.result.in_range) in
    let now : to_z w128 (of_z w128 c.as_nanosecond-in-Some.result) ≡ c.args.now.nanosecond =
    omega (arith, ints, c.as_nanosecond-in-Some.ensures, c.args.now.in_range) in
    ap (λ x. int_le x (to_z w128 (of_z w128 c.as_nanosecond-in-Some.result))) (fire ∙ c.timestamp.ensures)
    ∙ ap (int_le _) now
    ∙ sym (due_again c.args.now.nanosecond c.args.id c.args.agenda.now.entries c.args.agenda.now.added c.in-Some.entry c.len-count.ensures.ids c.in-Some.ensures)

pub returns-in-None : goal.returns-in-None
returns-in-None g c = sym (not_due c.args.now.nanosecond c.args.id c.args.agenda.now.entries c.in-None.ensures)
