use Rattle.std.proofs.Common.{◌&&◌, Bool, true, false, lit<, refl, sym}
use Rattle.std.specs.Prelude.{IsTrue}
use Rattle.std.proofs.lemmas.Bool.{true≢false}
use Rattle.cron_crontab.specs.declared.field.Field.TheVariants.{Minute, Hour, DayOfMonth, Month, DayOfWeek}
use Rattle.cron_tab_warnings.specs.Warnings.{AllAreListed}
use Rattle.cron_tab_warnings.specs.Written.{has_fields}
use Rattle.cron_tab_warnings.specs.declared.warnings.TheConstants.{WARNINGS}
use Rattle.cron_tab_warnings.specs.declared.warnings.Warning.TheVariants.{NeverFires, Backward, StepPastEnd, UnevenStep, StarStep, LeftOutDays, EitherDays, EachMinute, SixFields, SevenFields}
use Rattle.cron_tab_warnings.proofs.warnings.all_are_listed.Goals as goal

never : (b : Bool) → IsTrue (b && false) → ⊥
never true is = true≢false (sym is)
never false is = true≢false (sym is)

listed : AllAreListed WARNINGS
listed kind NeverFires text meaning is = (0, lit< tt, refl)
listed kind (Backward Minute) text meaning is = (1, lit< tt, refl)
listed kind (Backward Hour) text meaning is = (2, lit< tt, refl)
listed kind (Backward DayOfMonth) text meaning is = (3, lit< tt, refl)
listed kind (Backward Month) text meaning is = (4, lit< tt, refl)
listed kind (Backward DayOfWeek) text meaning is = (5, lit< tt, refl)
listed kind (StepPastEnd Minute) text meaning is = (6, lit< tt, refl)
listed kind (StepPastEnd Hour) text meaning is = (7, lit< tt, refl)
listed kind (StepPastEnd DayOfMonth) text meaning is = (8, lit< tt, refl)
listed kind (StepPastEnd Month) text meaning is = (9, lit< tt, refl)
listed kind (StepPastEnd DayOfWeek) text meaning is = (10, lit< tt, refl)
listed kind (UnevenStep Minute) text meaning is = (11, lit< tt, refl)
listed kind (UnevenStep Hour) text meaning is = (12, lit< tt, refl)
listed kind (UnevenStep DayOfMonth) text meaning is = (13, lit< tt, refl)
listed kind (UnevenStep Month) text meaning is = (14, lit< tt, refl)
listed kind (UnevenStep DayOfWeek) text meaning is = (15, lit< tt, refl)
listed kind (StarStep Minute) text meaning is = absurd (never (has_fields text) is)
listed kind (StarStep Hour) text meaning is = absurd (never (has_fields text) is)
listed kind (StarStep DayOfMonth) text meaning is = (16, lit< tt, refl)
listed kind (StarStep Month) text meaning is = absurd (never (has_fields text) is)
listed kind (StarStep DayOfWeek) text meaning is = (17, lit< tt, refl)
listed kind LeftOutDays text meaning is = (18, lit< tt, refl)
listed kind EitherDays text meaning is = (19, lit< tt, refl)
listed kind EachMinute text meaning is = (20, lit< tt, refl)
listed kind SixFields text meaning is = (21, lit< tt, refl)
listed kind SevenFields text meaning is = (22, lit< tt, refl)

pub returns : goal.returns
returns c = listed
