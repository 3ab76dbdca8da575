-- Names of months and days, and the words of refused expressions that are no such name.
use Rattle.std.specs.Prelude.{◌≡◌, ℕ, List, [], ◌∷◌, Option, Some, None, codes, get_or, if◌then◌else◌}
use Rattle.std.specs.Option.{option_map}
use Rattle.std.specs.Borrow.{Bor}
use Rattle.std.specs.Str.{bytes_eq}
use Rattle.cron_crontab.specs.declared.faults.Fault.{Fault}
use Rattle.cron_crontab.specs.declared.faults.Fault.TheVariants.{Refused}
use Rattle.cron_crontab.specs.declared.faults.Reason.{Reason}
use Rattle.cron_crontab.specs.declared.faults.Reason.TheVariants.{NoNumber}
use Rattle.cron_crontab.specs.declared.field.Field.{Field}
use Rattle.cron_crontab.specs.declared.field.Field.TheVariants.{Month, DayOfWeek}
use Rattle.cron_quartz.specs.declared.faults.Fault as quartz
use Rattle.cron_quartz.specs.declared.faults.Fault.TheVariants as quartz_fault
use Rattle.cron_quartz.specs.declared.faults.Reason as quartz_reason
use Rattle.cron_quartz.specs.declared.faults.Reason.TheVariants as quartz_reasons
use Rattle.cron_quartz.specs.declared.field.Field as quartz_field
use Rattle.cron_quartz.specs.declared.field.Field.TheVariants as quartz_fields
use Rattle.cron_text.specs.declared.faults.Fault as own
use Rattle.cron_text.specs.declared.faults.Fault.TheVariants as own_fault
use Rattle.cron_units.specs.declared.specifier.Refusal.{Refusal}
use Rattle.cron_units.specs.declared.specifier.Refusal.TheVariants.{UnknownName}
use Rattle.cron_tips.specs.Nearest.{IsFirstLeast, distances, reach}
use Rattle.cron_tips.specs.declared.calendar_names.Names.{Names}
use Rattle.cron_tips.specs.declared.calendar_names.Names.TheVariants.{Months, Days}
use Rattle.cron_tips.specs.declared.calendar_names.NoName.{NoName}

-- texts that mean months or days
abbrev pub texts_of : Names → List (List ℕ)
texts_of Months =
    codes "jan" ∷ codes "feb" ∷ codes "mar" ∷ codes "apr" ∷ codes "may" ∷ codes "jun" ∷ codes "jul" ∷ codes "aug" ∷ codes "sep" ∷ codes "oct" ∷
    codes "nov" ∷ codes "dec" ∷ codes "january" ∷ codes "february" ∷ codes "march" ∷ codes "april" ∷ codes "june" ∷ codes "july" ∷ codes "august" ∷
    codes "sept" ∷ codes "september" ∷ codes "october" ∷ codes "november" ∷ codes "december" ∷ []
texts_of Days =
    codes "sun" ∷ codes "mon" ∷ codes "tue" ∷ codes "wed" ∷ codes "thu" ∷ codes "fri" ∷ codes "sat" ∷ codes "sunday" ∷ codes "monday" ∷ codes "tues" ∷
    codes "tuesday" ∷ codes "wednesday" ∷ codes "thur" ∷ codes "thurs" ∷ codes "thursday" ∷ codes "friday" ∷ codes "saturday" ∷ []

-- the name in three letters that each of these texts means
abbrev pub names_of : Names → List (List ℕ)
names_of Months =
    codes "jan" ∷ codes "feb" ∷ codes "mar" ∷ codes "apr" ∷ codes "may" ∷ codes "jun" ∷ codes "jul" ∷ codes "aug" ∷ codes "sep" ∷ codes "oct" ∷
    codes "nov" ∷ codes "dec" ∷ codes "jan" ∷ codes "feb" ∷ codes "mar" ∷ codes "apr" ∷ codes "jun" ∷ codes "jul" ∷ codes "aug" ∷ codes "sep" ∷
    codes "sep" ∷ codes "oct" ∷ codes "nov" ∷ codes "dec" ∷ []
names_of Days =
    codes "sun" ∷ codes "mon" ∷ codes "tue" ∷ codes "wed" ∷ codes "thu" ∷ codes "fri" ∷ codes "sat" ∷ codes "sun" ∷ codes "mon" ∷ codes "tue" ∷
    codes "tue" ∷ codes "wed" ∷ codes "thu" ∷ codes "thu" ∷ codes "thu" ∷ codes "fri" ∷ codes "sat" ∷ []

-- The name is that of the text that is nearest to the word; there is none if no text is near.
abbrev pub IsNear : Names → List ℕ → Option (List ℕ) → Type 0
IsNear names word name =
    (at : Option ℕ) × IsFirstLeast (reach word) (distances word (texts_of names)) at × (name ≡ option_map (λ i. get_or (names_of names) i []) at)

-- whose names a field of a crontab's expression takes
abbrev pub names_at : Field → Option Names
names_at Month = Some Months
names_at DayOfWeek = Some Days
names_at _ = None

abbrev pub no_name : Bor (List ℕ) → Names → NoName
no_name word names = record { names = names; word = word }

abbrev pub word_by : Option Names → Reason → Option NoName
word_by names (NoNumber word) = option_map (no_name word) names
word_by names _ = None

-- the word of a crontab's expression that is no name, if that is its fault
abbrev pub crontab_word : Fault → Option NoName
crontab_word (Refused item) = word_by (names_at item.field) item.reason
crontab_word _ = None

-- the same for an expression of Quartz

abbrev pub quartz_names_at : quartz_field.Field → Option Names
quartz_names_at quartz_fields.Month = Some Months
quartz_names_at quartz_fields.DayOfWeek = Some Days
quartz_names_at _ = None

abbrev pub quartz_word_by : Option Names → quartz_reason.Reason → Option NoName
quartz_word_by names (quartz_reasons.NoNumber word) = option_map (no_name word) names
quartz_word_by names _ = None

abbrev pub quartz_word : quartz.Fault → Option NoName
quartz_word (quartz_fault.Refused item) = quartz_word_by (quartz_names_at item.field) item.reason
quartz_word _ = None

-- the same for an expression of this library, whose refusals tell the title of the unit

abbrev pub names_titled : List ℕ → Option Names
names_titled title =
    if bytes_eq title (codes "Months") then Some Months
    else (if bytes_eq title (codes "Days of Week") then Some Days else None)

abbrev pub own_word_by : Option Names → Refusal → Option NoName
own_word_by names (UnknownName word) = option_map (no_name word) names
own_word_by names _ = None

abbrev pub own_word : own.Fault → Option NoName
own_word (own_fault.Refused item) = own_word_by (names_titled item.definition.title.now) item.refusal
own_word _ = None
