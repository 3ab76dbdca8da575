-- What an error prints, and a fire.
use Rattle.std.specs.Prelude.{ℕ, List, codes}
use Rattle.cron_moments.specs.MomentText.{moment_text}
use Rattle.cron_dues.specs.DueText.{due_text}
use Rattle.cron_agenda.specs.declared.error.AddError.{AddError}
use Rattle.cron_agenda.specs.declared.error.AddError.TheVariants.{NoZone, NoFires, NoIds, OutOfMemory}
use Rattle.cron_agenda.specs.declared.fire.EntryFire.{EntryFire}
use Rattle.cron_agenda.specs.declared.fire.EntryFire.TheVariants.{AsShown, Once}

abbrev pub add_error_text : AddError → List ℕ
add_error_text NoZone = codes "no zone with this number is lent"
add_error_text NoFires = codes "it would never fire"
add_error_text NoIds = codes "no id is left"
add_error_text OutOfMemory = codes "out of memory"

abbrev pub zone_missing_text : List ℕ
zone_missing_text = codes "the zone of the entry that comes first is not lent"

-- a fire as its own type prints it
abbrev pub fire_text : EntryFire → List ℕ
fire_text (AsShown moment) = moment_text moment
fire_text (Once due) = due_text due
