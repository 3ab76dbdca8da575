-- Sets of civil seconds by rules of days, and without those of another set.
use Rattle.std.specs.Prelude.{ℕ, ◌/◌, Bool, ◌&&◌, not}
use Rattle.cron_time.specs.Seconds.{Seconds}

-- the civil seconds of a set that lie on allowed days
abbrev pub on_days : Seconds → (ℕ → Bool) → Seconds
on_days s allows c = s c && allows (c / 86_400)

-- the civil seconds of a set that another set doesn't have
abbrev pub except : Seconds → Seconds → Seconds
except s t c = s c && not (t c)
