-- The nearest fires around a second. Seconds count from 1970-01-01T00:00:00Z.
use Rattle.std.specs.Prelude.{ℤ, pos, ◌+ℤ◌, neg_ℤ, ◌≤ℤ◌, ◌<ℤ◌, Option, MatchOption, List, map}
use Rattle.std.specs.Int.{int_div_euclid, int_min}
use Rattle.jiff_core.specs.Calendar.{IsBetween}
use Rattle.cron_seconds.specs.Rules.{IsAmong}

-- the second in which an instant lies, which is in nanoseconds since 1970
abbrev pub second_of : ℤ → ℤ
second_of t = int_div_euclid t (pos 1_000_000_000)

-- the first second that begins at an instant or after it, if a `Timestamp` names it, else the last that one names
abbrev pub whole_second : ℤ → ℤ
whole_second t = int_min (second_of (t +ℤ pos 999_999_999)) (pos 253_402_207_200)

-- a second that begins at a `Timestamp`
abbrev pub IsInstant : ℤ → Type 0
IsInstant n = IsBetween (neg_ℤ (pos 377_705_023_201)) (pos 253_402_207_200) n

-- the instants of some fires
abbrev pub instants : {A : Type 0} → (A → ℤ) → List A → List ℤ
instants at fires = map at fires

-- of the instants that don't come after t the latest; `None` exactly if there is none
abbrev pub IsLatest : List ℤ → ℤ → Option ℤ → Type 0
IsLatest fires t answer =
    MatchOption answer ((n : ℤ) → IsAmong fires n → t <ℤ n)
    (λ r. IsAmong fires r × (r ≤ℤ t) × ((n : ℤ) → IsAmong fires n → n ≤ℤ t → n ≤ℤ r))

-- of the instants that come after t the earliest; `None` exactly if there is none
abbrev pub IsNext : List ℤ → ℤ → Option ℤ → Type 0
IsNext fires t answer =
    MatchOption answer ((n : ℤ) → IsAmong fires n → n ≤ℤ t)
    (λ r. IsAmong fires r × (t <ℤ r) × ((n : ℤ) → IsAmong fires n → t <ℤ n → r ≤ℤ n))
