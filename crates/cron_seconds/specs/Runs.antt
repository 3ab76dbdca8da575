-- The fires that a run or a run back has left. A run may have a last instant.
use Rattle.std.specs.Prelude.{ℤ, Bool, true, int_le, Option, Some, None, List, filter}
use Rattle.cron_seconds.specs.Rules.{all_back, all_before}
use Rattle.cron_seconds.specs.declared.back_run.Place.{Place}
use Rattle.cron_seconds.specs.declared.back_run.Place.TheVariants.{By, Before}

-- an instant, in seconds, isn't past the last one, if there is a last one
abbrev pub is_within : Option ℤ → ℤ → Bool
is_within None n = true
is_within (Some last) n = int_le n last

-- the fires whose instant isn't past the last one, if there is a last one
abbrev pub up_to : {A : Type 0} → (A → ℤ) → Option ℤ → List A → List A
up_to at None fires = fires
up_to at (Some last) fires = filter (λ fire. is_within (Some last) (at fire)) fires

-- the fires up to an instant, or before a fire, the last one first
abbrev pub left_back : {A : Type 0} → (A → ℤ) → (A → A → Bool) → List A → Place A → List A
left_back at is_past fires (By until) = all_back at fires until.nanosecond
left_back at is_past fires (Before fire) = all_before is_past fires fire
