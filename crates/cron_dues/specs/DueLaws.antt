-- What holds of the due fires of all sets by every clock.
use Rattle.std.specs.Prelude.{◌≡◌, ◌↔◌, ℕ, ◌<◌, ◌≤◌, ℤ, ◌≤ℤ◌, List, [], ◌∷◌, ◌++◌, Some, map, slice_get}
use Rattle.jiff_tz.specs.declared.timezone.TimeZone.{TimeZone}
use Rattle.cron_time.specs.Seconds.{Seconds, matching_seconds}
use Rattle.cron_moments.specs.Civil.{seconds_in_range}
use Rattle.cron_moments.specs.Readings.{Reading, readings}
use Rattle.cron_moments.specs.Readings as moments
use Rattle.cron_clocks.specs.Clocks.{HasInstant, LookupsAgree}
use Rattle.cron_dues.specs.Clock.Due.{Clock, Due, clock_of, due, due_instant, instant}
use Rattle.cron_dues.specs.Clock.Dues.{dues, dues_past}

-- the nominal seconds of the due fires are the civil seconds that match, in order
abbrev pub FiresAreTheMatches : Type 0
FiresAreTheMatches = (s : Seconds) (clock : Clock) → map (λ d. d.second) (dues s clock) ≡ matching_seconds s

-- each nominal second of the due fires is greater than those before it, so each match is due once
abbrev pub NominalSecondsAscend : Type 0
NominalSecondsAscend =
    (s : Seconds) (clock : Clock) (i j : ℕ) (d e : Due)
    → i < j
    → slice_get (dues s clock) i ≡ Some d
    → slice_get (dues s clock) j ≡ Some e
    → d.second < e.second

-- due instants never decrease from one due fire to the next
abbrev pub DueInstantsNeverDecrease : Type 0
DueInstantsNeverDecrease =
    (s : Seconds) (clock : Clock) (i j : ℕ) (d e : Due)
    → i ≤ j
    → slice_get (dues s clock) i ≡ Some d
    → slice_get (dues s clock) j ≡ Some e
    → instant d ≤ℤ instant e

-- n is the earliest instant of the readings of a civil second
pub record IsFirstReading (z : TimeZone) (c : ℕ) (n : ℤ) : Type 0 where
  pub has : HasInstant (readings z c) n
  pub first : (i : ℕ) (r : Reading) → slice_get (readings z c) i ≡ Some r → n ≤ℤ moments.instant r

-- where the look-ups agree, the due instant of a civil second is that of its first reading exactly if the clock doesn't pass over it
abbrev pub FirstReadingsAreDue : Type 0
FirstReadingsAreDue =
    (z : TimeZone) (c : ℕ)
    → LookupsAgree z
    → c < seconds_in_range
    → ((due (clock_of z) c).past ≡ 0 ↔ IsFirstReading z c (due_instant (clock_of z) c))

-- where the look-ups agree, a civil second with no reading is due when the clock passes over it
abbrev pub GapsArePassedOver : Type 0
GapsArePassedOver =
    (z : TimeZone) (c : ℕ)
    → LookupsAgree z
    → c < seconds_in_range
    → readings z c ≡ []
    → 0 < (due (clock_of z) c).past

-- where the list of all due fires is cut after one of them, those past it are the rest
abbrev pub CutListsGoOn : Type 0
CutListsGoOn =
    (s : Seconds) (clock : Clock) (done : List Due) (fire : Due) (rest : List Due)
    → dues s clock ≡ done ++ fire ∷ rest
    → dues_past s clock fire ≡ rest
