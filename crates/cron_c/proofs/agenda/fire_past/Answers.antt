use Rattle.cron_c.specs.Unions.{seconds_of_any}
use Rattle.cron_c.proofs.AgendaLemmas.{follows_in}
use Rattle.cron_c.proofs.agenda.fire_past.Goals as goal

pub returns-in-Ok : goal.returns-in-Ok
returns-in-Ok c =
    follows_in (seconds_of_any c.args.schedules.now) c.args.eras.now c.in-Some.given c.in-Ok.found c.args.item.now c.write_found.new.item c.write_found.result
    c.in-Some.ensures c.in-Ok.ensures c.write_found.ensures
