-- The heads of several schedules: the nearest match of each from a number on.
use Rattle.std.specs.Prelude.{◌≡◌, ℕ, ◌≤◌, ℤ, pos, ◌+ℤ◌, nat_lt, if◌then◌else◌, List, Option, Some, None, length, slice_get}
use Rattle.cron_units.specs.Nearest.{IsNearest}
use Rattle.cron_units.specs.Sets.{Sets}
use Rattle.cron_units.specs.declared.way.Way.TheVariants.{Ahead}
use Rattle.cron_time.specs.Matches.{is_match}
use Rattle.cron_time.specs.Search.Inner.MonthDays.{KnowsDays}
use Rattle.cron_unions.specs.declared.heads.Head.{Head}

-- the match that a word of a head stands for; its greatest number stands for no match
abbrev pub match_of : ℕ → Option ℕ
match_of n = if nat_lt n 4_294_967_295 then Some n else None

-- the head has the schedule's nearest match from a number on, and what it knows of a month is true
-- of the schedule
pub record IsHead (s : Sets) (from : ℤ) (h : Head) : Type 0 where
  pub nearest : IsNearest Ahead (is_match s) from (match_of h.next)
  pub days : KnowsDays s h.days

-- each is the head of the schedule at its place, for the first schedules of a list
pub record AreHeads (ss : List Sets) (from : ℤ) (hs : List Head) : Type 0 where
  pub few : length hs ≤ length ss
  pub each : (i : ℕ) (s : Sets) (h : Head) → slice_get ss i ≡ Some s → slice_get hs i ≡ Some h → IsHead s from h

-- the head is at a civil second, or past it
pub record IsPassing (s : Sets) (second : ℕ) (h : Head) : Type 0 where
  pub there : h.next ≡ second → IsHead s (pos second) h
  pub past : (h.next ≡ second → ⊥) → IsHead s (pos second +ℤ pos 1) h

-- each is at a civil second or past it, for the first schedules of a list
pub record ArePassing (ss : List Sets) (second : ℕ) (hs : List Head) : Type 0 where
  pub few : length hs ≤ length ss
  pub each : (i : ℕ) (s : Sets) (h : Head) → slice_get ss i ≡ Some s → slice_get hs i ≡ Some h → IsPassing s second h
