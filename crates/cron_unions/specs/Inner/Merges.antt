-- Merges: schedules with their heads, the nearest match of each from a number on.
use Rattle.std.specs.Prelude.{◌≡◌, ℕ, pos, List, length, take}
use Rattle.cron_units.specs.Sets.{Sets}
use Rattle.cron_unions.specs.Inner.Heads.{AreHeads}
use Rattle.cron_unions.specs.declared.merge.Merge.{Merge}

-- the merged schedules, one for each head
abbrev pub schedules_of : Merge → List Sets
schedules_of m = take (length m.heads.items) m.kept

-- these schedules are merged, and the heads are their nearest matches from the place of the merge
-- on
pub record StandsIn (ss : List Sets) (from : ℕ) (m : Merge) : Type 0 where
  pub same : schedules_of m ≡ ss
  pub all : length m.heads.items ≡ length ss
  pub here : m.from ≡ from
  pub heads : AreHeads ss (pos from) m.heads.items

-- the heads are those of the merged schedules, from the place of the merge on
abbrev pub Stands : Merge → Type 0
Stands m = StandsIn (schedules_of m) m.from m
