-- A schedule, as contracts see it.
use Rattle.std.specs.Prelude.{ℕ, List}
use Rattle.cron_units.specs.Sets.{Sets}

-- the text that it was read from, and its seven sets
pub record Plan : Type 0 where
  pub source : List ℕ
  pub sets : Sets
