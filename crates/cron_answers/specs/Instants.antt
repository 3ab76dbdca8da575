-- Instants as a shell writes them, in nanoseconds since 1970.
use Rattle.std.specs.Prelude.{◌≡◌, ◌⊎◌, ◌<◌, ◌≤◌, ◌+◌, ◌*◌, ◌/◌, ◌+ℤ◌, ◌*ℤ◌, ◌++◌, ℕ, ℤ, pos, List, ◌∷◌, Option, Some, None, Ok, MatchOption, codes, length}
use Rattle.std.specs.Int.{int_div_euclid}
use Rattle.std.specs.Str.Parse.{digits_value}
use Rattle.jiff.specs.Words.{parse_timestamp}
use Rattle.jiff_core.specs.Timestamp.{IsTimestampNanos}
use Rattle.jiff_tz.specs.Zone.{offset_at}
use Rattle.jiff_tz.specs.declared.timezone.TimeZone.{TimeZone}
use Rattle.cron_moments.specs.Civil.{seconds_in_range}
use Rattle.cron_dues.specs.Due.{Due, due, instant}
use Rattle.cron_dues.specs.DueReading.{HasText}
use Rattle.cron_walk_listing.specs.Arguments.{IsCount}
use Rattle.cron_answers.specs.Days.{AreDays, IsTimeOfDay}
use Rattle.cron_answers.specs.Shifts.{IsDaysAway, IsSecondsAway}

-- ---- the ways to write one

abbrev pub IsNow : List ℕ → ℤ → ℤ → Type 0
IsNow text now t = (text ≡ codes "now") × (t ≡ now)

-- `@` and a decimal number of seconds since 1970, which fits 32 bits
abbrev pub IsCounted : List ℕ → ℤ → Type 0
IsCounted text t =
    (digits : List ℕ) × (text ≡ 64 ∷ digits) × IsCount digits × (t ≡ pos (digits_value 10 digits) *ℤ pos 1_000_000_000)

-- an instant with an offset, as `jiff` reads it
abbrev pub IsStamp : List ℕ → ℤ → Type 0
IsStamp text t = parse_timestamp text ≡ Ok t

-- a fire as it was printed
abbrev pub IsPrinted : List ℕ → ℤ → Type 0
IsPrinted text t = (d : Due) × HasText text d × (t ≡ instant d *ℤ pos 1_000_000_000)

-- UTC shows the civil second c, in seconds since 1970-01-01 00:00:00, at the instant that the text
-- spells.
abbrev pub IsSecondAt : List ℕ → ℕ → Type 0
IsSecondAt stamp c = (c < seconds_in_range) × (parse_timestamp stamp ≡ Ok (pos c *ℤ pos 1_000_000_000))

-- a text of at most 32 bytes that spells an instant of UTC with `Z` or `T00:00Z` appended: a civil
-- time, or a date
abbrev pub IsCivilSecond : List ℕ → ℕ → Type 0
IsCivilSecond text c = (length text ≤ 32) × (IsSecondAt (text ++ codes "Z") c ⊎ IsSecondAt (text ++ codes "T00:00Z") c)

-- a date alone, whose midnight is the civil second c
abbrev pub IsDateSecond : List ℕ → ℕ → Type 0
IsDateSecond text c = (length text ≤ 32) × IsSecondAt (text ++ codes "T00:00Z") c

-- t is the first instant at which the zone's clock shows the civil time of a text or, in a gap, a
-- later one.
abbrev pub IsCivil : List ℕ → TimeZone → ℤ → Type 0
IsCivil text z t = (c : ℕ) × IsCivilSecond text c × (t ≡ instant (due z c) *ℤ pos 1_000_000_000)

-- the zone's clock shows the civil second c at the instant t
abbrev pub IsShown : TimeZone → ℤ → ℕ → Type 0
IsShown z t c = (c < seconds_in_range) × (pos c ≡ int_div_euclid t (pos 1_000_000_000) +ℤ offset_at z t)

-- The text means the civil second c while the clock shows `shown`: the midnight that begins a day
-- or a month, a time of today, or the time shown, some days away.
abbrev pub IsSaid : List ℕ → ℕ → ℤ → Type 0
IsSaid text shown c =
    ((first : ℕ) × (end : ℕ) × AreDays text (shown / 86_400) first end × (c ≡ pos (first * 86_400)))
    ⊎ ((n : ℕ) × IsTimeOfDay text n × (c ≡ pos (shown / 86_400 * 86_400 + n)))
    ⊎ ((n : ℤ) × IsDaysAway text n × (c ≡ pos shown +ℤ n *ℤ pos 86_400))

-- what the text means at the time `now`, by what the zone's clock shows then
abbrev pub IsSaidAt : List ℕ → TimeZone → ℤ → ℤ → Type 0
IsSaidAt text z now c = (shown : ℕ) × IsShown z now shown × IsSaid text shown c

-- the timestamp t, or `None` outside of those that there are
abbrev pub IsTimestamp : ℤ → Option ℤ → Type 0
IsTimestamp t answer = MatchOption answer (IsTimestampNanos t → ⊥) (λ u. IsTimestampNanos t × (u ≡ t))

-- the first instant at which the zone's clock shows the civil second c or a later one, or `None`
-- outside of 1970 to 2100
abbrev pub IsInstantOf : TimeZone → ℤ → Option ℤ → Type 0
IsInstantOf z c answer =
    MatchOption answer ((k : ℕ) → c ≡ pos k → k < seconds_in_range → ⊥)
    (λ t. (k : ℕ) × (c ≡ pos k) × (k < seconds_in_range) × (t ≡ instant (due z k) *ℤ pos 1_000_000_000))

-- ---- which of these ways a text is

-- an answer with the property P, or `None` if nothing has it
abbrev pub Tells : (ℤ → Type 0) → Option ℤ → Type 0
Tells P answer = MatchOption answer ((t : ℤ) → P t → ⊥) P

abbrev pub TellsSecond : (ℕ → Type 0) → Option ℕ → Type 0
TellsSecond P answer = MatchOption answer ((c : ℕ) → P c → ⊥) P

-- an answer with the property P, or, if nothing has it, one with another
abbrev pub OrElse : (ℤ → Type 0) → (Option ℤ → Type 0) → Option ℤ → Type 0
OrElse P other answer = ((t : ℤ) × (answer ≡ Some t) × P t) ⊎ (((t : ℤ) → P t → ⊥) × other answer)

-- an answer that a number with the property P gives, or, if no number has it, one with another
abbrev pub GivenBy : (ℤ → Type 0) → (ℤ → Option ℤ → Type 0) → (Option ℤ → Type 0) → Option ℤ → Type 0
GivenBy P gives other answer = ((n : ℤ) × P n × gives n answer) ⊎ (((n : ℤ) → P n → ⊥) × other answer)

-- The instant of a text as people say it: a number of seconds away, or a civil time.
abbrev pub IsSpoken : List ℕ → TimeZone → ℤ → Option ℤ → Type 0
IsSpoken text z now =
    GivenBy (IsSecondsAway text) (λ n. IsTimestamp (now +ℤ n *ℤ pos 1_000_000_000))
    (GivenBy (IsSaidAt text z now) (IsInstantOf z) (λ answer. answer ≡ None))

-- The instant of a text, by the first of these ways in which it is written; `None` if it is written
-- in none of them.
abbrev pub IsInstant : List ℕ → TimeZone → ℤ → Option ℤ → Type 0
IsInstant text z now =
    OrElse (IsNow text now) (OrElse (IsCounted text) (OrElse (IsStamp text) (OrElse (IsPrinted text) (OrElse (IsCivil text z) (IsSpoken text z now)))))
