use Rattle.std.proofs.Common.{refl, ap, ◌∙◌, map, subst}
use Rattle.std.specs.Prelude.{Ok, filter}
use Rattle.std.proofs.lemmas.Result.{err_from_is_err_and}
use Rattle.jiff.specs.Words.{plain_zone}
use Rattle.cron_agenda.specs.Entries.{TakesDue, is_by}
use Rattle.cron_agenda_scheduler.specs.Late.{is_run}
use Rattle.cron_agenda_scheduler.proofs.picks.take_due.Goals as goal

pub returns-in_default : goal.returns-in_default
returns-in_default g c = (ap (filter (is_by c.args.now.nanosecond)) c.in_default.ensures, refl)

pub returns-in_err-taken : goal.returns-in_err-taken
returns-in_err-taken g c = let p = err_from_is_err_and c.from_residual.result c.from_residual.ensures.1 in rw (p.1, p.2) c.in_err-taken.ensures

pub returns : goal.returns
returns g c = record {
  takes = subst (λ o. TakesDue g.T.CivilSeconds.has (map plain_zone c.args.zones.now) c.args.now.nanosecond c.args.agenda.now (Ok o) c.next_due.new.self) c.in-Some-taken.is c.in_ok-taken.ensures;
  entry = c.in-Some.first;
  first = c.in-Some.ensures;
  told = c.is_run-is_run.ensures ∙ ap (λ l. is_run l c.args.now.nanosecond c.in-Some-taken.due c.next_due.new.self.entries) c.lateness.ensures;
}
