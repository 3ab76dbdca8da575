-- Of the due fires of a set by a clock the first after an instant, the first past another, and the last by an instant.
use Rattle.std.specs.Prelude.{◌≡◌, ℕ, ◌≤◌, ℤ, true, Option, Some, MatchOption, slice_get}
use Rattle.cron_time.specs.Seconds.{Seconds}
use Rattle.cron_dues.specs.Clock.Due.{Clock, Due}
use Rattle.cron_dues.specs.Clock.Dues.{dues, is_due_after, is_due_by, is_past}

-- d is one of the due fires of the set
abbrev pub IsDue : Seconds → Clock → Due → Type 0
IsDue s clock d = (i : ℕ) × (slice_get (dues s clock) i ≡ Some d)

-- of the due fires with a property the first; `None` exactly if none has it
abbrev pub IsFirst : (Due → Type 0) → Option Due → Type 0
IsFirst P answer = MatchOption answer ((d : Due) → P d → ⊥) (λ d. P d × ((e : Due) → P e → d.second ≤ e.second))

-- of the due fires with a property the last; `None` exactly if none has it
abbrev pub IsLast : (Due → Type 0) → Option Due → Type 0
IsLast P answer = MatchOption answer ((d : Due) → P d → ⊥) (λ d. P d × ((e : Due) → P e → e.second ≤ d.second))

-- of the due fires whose instant comes after t, which is in nanoseconds since 1970, the first
abbrev pub IsFirstDueAfter : Seconds → Clock → ℤ → Option Due → Type 0
IsFirstDueAfter s clock t = IsFirst (λ d. IsDue s clock d × (is_due_after t d ≡ true))

-- of the due fires past a given one the first
abbrev pub IsFirstDuePast : Seconds → Clock → Due → Option Due → Type 0
IsFirstDuePast s clock fire = IsFirst (λ d. IsDue s clock d × (is_past fire d ≡ true))

-- of the due fires whose instant is t or comes before it the last
abbrev pub IsLastDueBy : Seconds → Clock → ℤ → Option Due → Type 0
IsLastDueBy s clock t = IsLast (λ d. IsDue s clock d × (is_due_by t d ≡ true))

-- of the due fires that a given one comes past the last
abbrev pub IsLastDueBefore : Seconds → Clock → Due → Option Due → Type 0
IsLastDueBefore s clock fire = IsLast (λ d. IsDue s clock d × (is_past d fire ≡ true))
