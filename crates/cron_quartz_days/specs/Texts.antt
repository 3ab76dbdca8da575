-- What each text has: one meaning, or one fault; and what a meaning is made of.
use Rattle.std.specs.Prelude.{◌≡◌, ◌⊎◌, ℕ, List}
use Rattle.cron_units.specs.Sets.{Sets}
use Rattle.cron_quartz.specs.Refusals.{Fault}
use Rattle.cron_quartz.specs.Quartz.{Means, Refuses}
use Rattle.cron_quartz.specs.Days.{Days, schedules_of}
use Rattle.cron_quartz_days.specs.Runs.{HasAllDays}

-- a text means something or is refused, not both, and has no second meaning and no second fault
pub record IsToldOnce (text : List ℕ) : Type 0 where
  pub told : ((schedules : List Sets) × Means text schedules) ⊎ ((fault : Fault) × Refuses text fault)
  pub apart : (schedules : List Sets) (fault : Fault) → Means text schedules → Refuses text fault → ⊥
  pub one_meaning : (a b : List Sets) → Means text a → Means text b → a ≡ b
  pub one_fault : (f g : Fault) → Refuses text f → Refuses text g → f ≡ g

abbrev pub EachIsToldOnce : Type 0
EachIsToldOnce = (text : List ℕ) → IsToldOnce text

-- Each meaning is the schedules of a form of days, made of a schedule that has all days. So the
-- laws of the forms apply to it.
abbrev pub MeaningsHaveDays : Type 0
MeaningsHaveDays =
    (text : List ℕ) (schedules : List Sets) → Means text schedules → (days : Days) × (times : Sets) × HasAllDays times × (schedules ≡ schedules_of days times)
