-- How many fires there are, and the waits between them.
use Rattle.std.specs.Prelude.{◌≡◌, ◌≤◌, ℕ, ℤ, ◌-ℤ◌, List, [], ◌∷◌, Option, Some, None, length, map, min, unsigned_abs, Contains}
use Rattle.std.specs.List.{AllByRecursion}
use Rattle.jiff_tz.specs.declared.timezone.TimeZone.{TimeZone}
use Rattle.cron_dues.specs.Due as dues
use Rattle.cron_fires.specs.declared.changes.ClockChanges.{ClockChanges}
use Rattle.cron_fires.specs.declared.changes.ClockChanges.TheVariants.{AsShown, Once}
use Rattle.cron_moments.specs.Readings as moments
use Rattle.cron_dues.specs.Dues.{dues_between}
use Rattle.cron_instants.specs.Fires as shown
use Rattle.cron_time.specs.Seconds.{Seconds}
use Rattle.cron_answers.specs.declared.tally.Tally.{Tally}
use Rattle.cron_answers.specs.declared.tally.Waits.{Waits}

abbrev pub wait_between : ℤ → ℤ → ℕ
wait_between last next = unsigned_abs (next -ℤ last)

-- the waits between fires, in seconds; the first is after the fire `last`, if there is one
abbrev pub waits_past : Option ℤ → List ℤ → List ℕ
waits_past None [] = []
waits_past None (s ∷ ss) = waits_past (Some s) ss
waits_past (Some last) [] = []
waits_past (Some last) (s ∷ ss) = wait_between last s ∷ waits_past (Some s) ss

-- the waits between fires that follow one another, by their instants in seconds
abbrev pub waits_of : List ℤ → List ℕ
waits_of ss = waits_past None ss

-- the shortest and the longest of these waits, none exactly where there is no wait
abbrev pub AreEnds : List ℕ → Option Waits → Type 0
AreEnds ws None = ws ≡ []
AreEnds ws (Some w) = Contains ws w.shortest × Contains ws w.longest × AllByRecursion (λ g. (w.shortest ≤ g) × (g ≤ w.longest)) ws

-- A tally: the number of fires, at most 2^64 - 1, and the shortest and the longest wait between two
-- that follow one another.
pub record IsTally (ss : List ℤ) (t : Tally) : Type 0 where
  pub counted : t.fires ≡ min (length ss) 18_446_744_073_709_551_615
  pub ends : AreEnds (waits_of ss) t.waits

-- the tally of the fires of a set in a zone after an instant, up to and with another, by a rule
-- at clock changes
abbrev pub IsTallyBy : ClockChanges → Seconds → TimeZone → ℤ → ℤ → Tally → Type 0
IsTallyBy AsShown s z start end t = IsTally (map moments.instant (shown.fires_between s z start end)) t
IsTallyBy Once s z start end t = IsTally (map dues.instant (dues_between s z start end)) t
