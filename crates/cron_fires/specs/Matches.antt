-- Civil seconds of a set, whichever zone's clock shows them.
use Rattle.std.specs.Prelude.{◌≡◌, ℕ, ◌<◌, ◌≤◌, true, Option, MatchOption}
use Rattle.cron_moments.specs.Civil.{seconds_in_range}
use Rattle.cron_time.specs.Seconds.{Seconds}

-- a civil second of the range that the set has
abbrev pub Matches : Seconds → ℕ → Type 0
Matches s c = (c < seconds_in_range) × (s c ≡ true)

-- the first civil second of the set after c; `None` exactly if there is none
abbrev pub IsNextMatch : Seconds → ℕ → Option ℕ → Type 0
IsNextMatch s c next =
    MatchOption next
    ((k : ℕ) → Matches s k → k ≤ c)
    (λ n. Matches s n × (c < n) × ((k : ℕ) → Matches s k → c < k → n ≤ k))
