-- The headline: what a text means, and what the calls of a walk over its timeline answer.
use Rattle.std.specs.Prelude.{◌≡◌, ℕ, ℤ, List, Option, map}
use Rattle.jiff_tz.specs.declared.timezone.TimeZone.{TimeZone}
use Rattle.cron_time.specs.Walk.Cursor.{Start, run_on}
use Rattle.cron_text.specs.Meaning.{Means}
use Rattle.cron_moments.specs.Readings.{Reading}
use Rattle.cron_units.specs.Sets.{Sets}
use Rattle.cron_time.specs.Timeline.{timeline}
use Rattle.cron.specs.Turns.{way_of}
use Rattle.cron.specs.declared.schedule.play.Turn.{Turn}

-- The text means seven sets and no others, and these are the answers of the calls, one after another from the start, on the timeline of those sets in the zone.
pub record IsWalked (text : List ℕ) (z : TimeZone) (start : ℤ) (turns : List Turn) (answers : List (Option Reading)) : Type 0 where
  pub sets : Sets
  pub means : Means text sets
  pub only : (other : Sets) → Means text other → other ≡ sets
  pub run : answers ≡ (run_on (timeline sets z) z (map way_of turns) (Start start)).answers
