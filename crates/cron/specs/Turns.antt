-- A list of calls of a walk, and their answers.
use Rattle.std.specs.Prelude.{◌≡◌, List, map, Option}
use Rattle.cron_units.specs.declared.way.Way.{Way}
use Rattle.cron_units.specs.declared.way.Way.TheVariants.{Ahead, Back}
use Rattle.cron_time.specs.Walk.Cursor.{Walk, Run, run_on}
use Rattle.cron_moments.specs.Readings.{Reading}
use Rattle.cron_time.specs.Timeline.{timeline}
use Rattle.cron.specs.declared.schedule.play.Turn.{Turn}
use Rattle.cron.specs.declared.schedule.play.Turn.TheVariants.{Next, NextBack}

-- which way a turn goes
abbrev pub way_of : Turn → Way
way_of Next = Ahead
way_of NextBack = Back

-- the run of these calls from a walk
abbrev pub run_from : Walk → List Way → Run
run_from w ways = run_on (timeline w.sets w.zone) w.zone ways w.cursor

-- these turns of the walk `old` gave these answers and left the walk `new`
pub record IsPlayed (old : Walk) (turns : List Turn) (answers : List (Option Reading)) (new : Walk) : Type 0 where
  pub answers_are : answers ≡ (run_from old (map way_of turns)).answers
  pub cursor : new.cursor ≡ (run_from old (map way_of turns)).cursor
  pub sets : new.sets ≡ old.sets
  pub zone : new.zone ≡ old.zone
