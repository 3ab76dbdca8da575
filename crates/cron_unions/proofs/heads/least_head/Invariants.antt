use Rattle.std.proofs.Common.{ℤ, List, take}
use Rattle.cron_units.specs.Nearest.{IsNearest}
use Rattle.cron_units.specs.Sets.{Sets}
use Rattle.cron_units.specs.declared.way.Way.TheVariants.{Ahead}
use Rattle.cron_unions.specs.Inner.Heads.{AreHeads, match_of}
use Rattle.cron_unions.specs.Nearest.{is_match_any}
use Rattle.cron_unions.proofs.heads.least_head.Given as goal

abbrev pub invariant-loop-head : goal.invariant-loop-head
invariant-loop-head l =
    (schedules : List Sets) (from : ℤ) → AreHeads schedules from l.heads → IsNearest Ahead (is_match_any (take l.head-index schedules)) from (match_of l.least)
