-- The agenda of an alarm.
use Rattle.std.proofs.Common.{◌≡◌, ℕ, [], ◌∷◌, subst}
use Rattle.std.specs.Prelude.{Result}
use Rattle.jiff.specs.Words.{plain_zone}
use Rattle.jiff_core.specs.declared.Timestamp.{Timestamp}
use Rattle.cron_agenda.specs.Entries.{Adds, Listed, listed}
use Rattle.cron_agenda.specs.Fires.{fires_after}
use Rattle.cron_agenda.specs.declared.error.AddError.{AddError}
use Rattle.cron_unions.specs.Unions.{any_of}
use Rattle.cron_unions.specs.declared.union.Union.{Union}
use Rattle.cron_tab_running.specs.Alarms.{AddsAlarm}
use Rattle.cron_tab_running.specs.declared.alarm.Alarm.{Alarm}

pub alarm-added : (a : Alarm) (start : Timestamp) (table : Union) (old new : Listed Union) (answer : Result ℕ AddError) → table.schedules.now ≡ a.schedules.now
    → old ≡ listed [] 0 0
    → Adds (λ u. any_of u.schedules.now) (plain_zone a.zone ∷ []) table 0 (λ z. fires_after (any_of table.schedules.now) z a.changes start.nanosecond) old answer new
    → AddsAlarm a start answer new
alarm-added a start table old new answer same none adds =
    (table, same, subst (λ l. Adds (λ u. any_of u.schedules.now) (plain_zone a.zone ∷ []) table 0 (λ z. fires_after (any_of table.schedules.now) z a.changes start.nanosecond) l answer new) none adds)
