-- The fires of a plan.
use Rattle.std.specs.Prelude.{ℕ, ℤ, Option, Some, None, List, take}
use Rattle.jiff.specs.Words.{plain_zone}
use Rattle.jiff_tz.specs.declared.timezone.TimeZone.{TimeZone}
use Rattle.cron_time.specs.Seconds.{Seconds}
use Rattle.cron_scheduler.specs.declared.plan.Plan.{Plan}
use Rattle.cron_scheduler.specs.declared.plan.Start.{Start}
use Rattle.cron_scheduler.specs.declared.plan.Start.TheVariants.{After, Past}

-- the fires from a start on, in order, by a rule that has those after an instant and those past a fire
abbrev pub fires_from : {A : Type 0} → (ℤ → List A) → (A → List A) → Start A → List A
fires_from after past (After now) = after now.nanosecond
fires_from after past (Past fire) = past fire

-- the first `most` of some fires, or all of them
abbrev pub first_of : {A : Type 0} → Option ℕ → List A → List A
first_of None fires = fires
first_of (Some most) fires = take most fires

-- the fires of a set in a zone from a start on, or the first `most` of them
abbrev pub planned : {S A : Type 0} → (S → TimeZone → ℤ → List A) → (S → TimeZone → A → List A) → S → TimeZone → Start A → Option ℕ → List A
planned after past s z start most = first_of most (fires_from (after s z) (past s z) start)

-- the fires of a plan: those of its table in its zone from its start on, or the first `most` of
-- them
abbrev pub fires_of : {T A : Type 0} → (T → Seconds) → (Seconds → TimeZone → ℤ → List A) → (Seconds → TimeZone → A → List A) → Plan T A → List A
fires_of has after past p = planned after past (has p.table.now) (plain_zone p.zone.now) p.start p.most
