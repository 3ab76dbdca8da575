use Rattle.std.proofs.Common.{◌≡◌, true, false, refl, arith}
use Rattle.std.specs.Prelude.{◌<ℤ◌, ◌≤ℤ◌, ◌*ℤ◌, pos}
use Rattle.std.proofs.lemmas.Int.{ints}
use Rattle.jiff_core.proofs.SignedLemmas.{signed_arith}
use Rattle.cron_clocks.proofs.Windows.{le_no, le_yes}
use Rattle.cron_agenda.specs.Entries.{is_by}
use Rattle.cron_agenda.specs.Fires.{instant}
use Rattle.cron_agenda.proofs.EntryLemmas.{due_next, none_due}
use Rattle.cron_agenda.proofs.agenda.Agenda.next_due.Goals as goal

pub returns-then-gt : goal.returns-then-gt
returns-then-gt g c =
    let late : c.args.now.nanosecond <ℤ c.timestamp.result.nanosecond = grind (arith, ints, c.gt.ensures, c.if-gt.true) in
    let at = c.timestamp.ensures in
    let fails : is_by c.args.now.nanosecond c.in-Some.first ≡ false =
    le_no (instant c.in-Some.first.fire *ℤ pos 1_000_000_000) c.args.now.nanosecond (omega (arith, signed_arith)) in
    (none_due c.args.now.nanosecond c.args.self.now.entries c.in-Some.first c.in-Some.ensures fails, refl)

pub returns : goal.returns
returns g c =
    let early : c.timestamp.result.nanosecond ≤ℤ c.args.now.nanosecond = grind (arith, ints, c.gt.ensures, c.if-gt.false) in
    let at = c.timestamp.ensures in
    let due : is_by c.args.now.nanosecond c.in-Some.first ≡ true =
    le_yes (instant c.in-Some.first.fire *ℤ pos 1_000_000_000) c.args.now.nanosecond (omega (arith, signed_arith)) in
    due_next g.T.CivilSeconds.has _ c.args.now.nanosecond c.args.self.now c.next.result c.next.new.self c.in-Some.first c.in-Some.ensures due c.next.ensures
