-- What holds of every rule at clock changes. A rule has the fires of a set in a zone after an
-- instant, and those past a fire.
use Rattle.std.specs.Prelude.{ℤ, List}
use Rattle.jiff_tz.specs.declared.timezone.TimeZone.{TimeZone}
use Rattle.cron_time.specs.Seconds.{Seconds}
use Rattle.cron_seconds.specs.Rules.{IsCut, NeverDecreases}

-- from fire to fire instants never decrease
abbrev pub FiresNeverDecrease : {A : Type 0} → (A → ℤ) → (Seconds → TimeZone → ℤ → List A) → (Seconds → TimeZone → A → List A) → Type 0
FiresNeverDecrease {A} at after past =
    ((s : Seconds) (z : TimeZone) (t : ℤ) → NeverDecreases at (after s z t)) × ((s : Seconds) (z : TimeZone) (fire : A) → NeverDecreases at (past s z fire))

-- where a list of fires is cut after one of them, the rest are the fires past it
abbrev pub FiresGoOn : {A : Type 0} → (Seconds → TimeZone → ℤ → List A) → (Seconds → TimeZone → A → List A) → Type 0
FiresGoOn {A} after past =
    ((s : Seconds) (z : TimeZone) (t : ℤ) → IsCut (after s z t) (past s z)) × ((s : Seconds) (z : TimeZone) (fire : A) → IsCut (past s z fire) (past s z))
