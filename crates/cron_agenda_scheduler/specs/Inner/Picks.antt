-- The next fire that is due, with whether it is run.
use Rattle.std.specs.Prelude.{ℤ, Option, Some, None, Result, Ok, Err}
use Rattle.cron_agenda.specs.declared.error.ZoneMissing.{ZoneMissing}
use Rattle.cron_agenda.specs.Entries.{Listed, TakesDue}
use Rattle.cron_agenda_scheduler.specs.declared.picks.Pick.{Pick}
use Rattle.cron_agenda_scheduler.specs.Late.{IsPicked, Tables}

abbrev pub Picks : {T : Type 0} → Tables T → ℤ → Listed T → Result (Option Pick) ZoneMissing → Listed T → Type 0
Picks ts t a (Ok None) b = TakesDue ts.has ts.zones t a (Ok None) b
Picks ts t a (Ok (Some pick)) b = IsPicked ts t a pick.due pick.is_run b
Picks ts t a (Err why) b = TakesDue ts.has ts.zones t a (Err why) b
