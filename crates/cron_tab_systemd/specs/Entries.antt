-- What is made of one entry.
use Rattle.std.specs.Prelude.{◌≡◌, ◌∷◌, ℕ, ℤ, Bool, List, [], Option, None, Ok, Err, codes, filter, map, unwrap_or, ⊤}
use Rattle.jiff_tz.specs.declared.timezone.TimeZone.{TimeZone}
use Rattle.cron_crontab.specs.Crontab.{Meaning, reboot, schedules}
use Rattle.cron_oncalendar.specs.Unions.{IsNever, SaysUnion}
use Rattle.cron_systemd.specs.Services.{IsUnsaid, SaysService, Service}
use Rattle.cron_systemd.specs.Timers.{IsNoTimer, SaysTimer}
use Rattle.cron_tab_agenda.specs.ChangedDays.{AreChangedDays, end_day, first_day, fixed_in}
use Rattle.cron_tab_agenda.specs.declared.changed_days.ChangedDay.{ChangedDay}
use Rattle.cron_tab_lines.specs.Entries.{Entry, unescaped}
use Rattle.cron_tab_lines.specs.Files.{FileLine}
use Rattle.cron_tab_tasks.specs.Names.{value_in}
use Rattle.cron_tab_tasks.specs.Tasks.{input_text}
use Rattle.cron_tab_systemd.specs.Zones.{IsZoneOf}
use Rattle.cron_tab_systemd.specs.declared.made.Fault.{Fault}
use Rattle.cron_tab_systemd.specs.declared.made.Fault.TheVariants.{OutOfMemory, Unsaid as Says}
use Rattle.cron_tab_systemd.specs.declared.made.LineMade.{LineMade}
use Rattle.cron_tab_systemd.specs.declared.made.Made.TheVariants.{LeftOut, Skips, Units as Written}
use Rattle.cron_tab_systemd.specs.declared.made.Units.{Units}
use Rattle.cron_tab_systemd.specs.declared.made.Unsaid.{Unsaid}
use Rattle.cron_tab_systemd.specs.declared.made.Unsaid.TheVariants.{Never, Reboot, Service as NoService, Timer as NoTimer, Zone}

-- ---- timers

-- the calendars say when an expression fires
abbrev pub SaysMeaning : Meaning → Option (List ℕ) → List ℕ → Type 0
SaysMeaning (schedules ss) word text = SaysUnion ss word text
SaysMeaning reboot word text = ⊥

-- there are no calendars for this
abbrev pub IsCalendarFault : Meaning → Fault → Type 0
IsCalendarFault reboot (Says why) = why ≡ Reboot
IsCalendarFault (schedules ss) (Says why) = (why ≡ Never) × IsNever ss
IsCalendarFault m OutOfMemory = ⊤

abbrev pub IsTimer : List ℕ → Bool → List ℕ → Type 0
IsTimer calendars persistent text = SaysTimer calendars persistent text

abbrev pub IsTimerFault : List ℕ → Bool → Fault → Type 0
IsTimerFault calendars persistent (Says (NoTimer why)) = IsNoTimer calendars persistent why
IsTimerFault calendars persistent (Says why) = ⊥
IsTimerFault calendars persistent OutOfMemory = ⊤

-- ---- services

-- the service of an entry, where the lines above set these variables
abbrev pub service_of : List (List ℕ × List ℕ) → Entry → Service
service_of vs e = record {
  user = e.user;
  variables = vs;
  shell = unwrap_or (value_in (codes "SHELL") None vs) (codes "/bin/sh");
  command = unescaped e.command;
  input = input_text e.input;
}

abbrev pub IsService : List (List ℕ × List ℕ) → Entry → List ℕ → Type 0
IsService vs e text = SaysService (service_of vs e) text

abbrev pub IsServiceFault : List (List ℕ × List ℕ) → Entry → Fault → Type 0
IsServiceFault vs e (Says (NoService why)) = IsUnsaid (service_of vs e) why
IsServiceFault vs e (Says why) = ⊥
IsServiceFault vs e OutOfMemory = ⊤

-- ---- units

-- the value of `CRON_TZ` above an entry; empty if it isn't set
abbrev pub zone_value : List (List ℕ × List ℕ) → List ℕ
zone_value vs = unwrap_or (value_in (codes "CRON_TZ") None vs) []

-- The timer elapses when the entry fires, as its calendars say, and the service runs its command.
pub record AreUnits (asked : Option (List ℕ)) (persistent : Bool) (vs : List (List ℕ × List ℕ)) (e : Entry) (u : Units) : Type 0 where
  pub zone : Option (List ℕ)
  pub named : IsZoneOf asked (zone_value vs) (Ok zone)
  pub calendars : List ℕ
  pub says : SaysMeaning e.meaning zone calendars
  pub timer : IsTimer calendars persistent u.timer.items
  pub service : IsService vs e u.service.items

-- a timer can't be written for calendars that say when the entry fires
pub record IsTimerless (asked : Option (List ℕ)) (persistent : Bool) (vs : List (List ℕ × List ℕ)) (e : Entry) (why : Fault) : Type 0 where
  pub zone : Option (List ℕ)
  pub named : IsZoneOf asked (zone_value vs) (Ok zone)
  pub calendars : List ℕ
  pub says : SaysMeaning e.meaning zone calendars
  pub fault : IsTimerFault calendars persistent why

-- there are no units for this
abbrev pub IsUnitsFault : Option (List ℕ) → Bool → List (List ℕ × List ℕ) → Entry → Fault → Type 0
IsUnitsFault asked persistent vs e OutOfMemory = ⊤
IsUnitsFault asked persistent vs e (Says Zone) = IsZoneOf asked (zone_value vs) (Err Zone)
IsUnitsFault asked persistent vs e (Says Reboot) = IsCalendarFault e.meaning (Says Reboot)
IsUnitsFault asked persistent vs e (Says Never) = IsCalendarFault e.meaning (Says Never)
IsUnitsFault asked persistent vs e (Says (NoTimer why)) = IsTimerless asked persistent vs e (Says (NoTimer why))
IsUnitsFault asked persistent vs e (Says (NoService why)) = IsServiceFault vs e (Says (NoService why))

-- ---- what is made

abbrev pub skips : ℕ → ChangedDay → LineMade
skips line day = record { line = line; made = Skips day.date }

abbrev pub written : ℕ → Units → LineMade
written line units = record { line = line; made = Written units }

abbrev pub left_out : ℕ → Unsaid → LineMade
left_out line why = record { line = line; made = LeftOut why }

-- Of a line's entry these units were made, with a note for each day of a year on which the clock
-- skips a fixed time of it.
pub record IsWritten (units : Units) (t : ℤ) (z : TimeZone) (line : FileLine) (made : List LineMade) : Type 0 where
  pub days : List ChangedDay
  pub are_changed : AreChangedDays (fixed_in line) z (first_day z t) (end_day (first_day z t) 366) days
  pub all : made ≡ written line.number units ∷ map (skips line.number) (filter (λ d. d.skipped) days)
