-- The first and the last civil second of a day.
use Rattle.std.specs.Prelude.{ℕ, ◌+◌, ◌*◌, ℤ, pos}
use Rattle.cron_units.specs.declared.way.Way.{Way}
use Rattle.cron_units.specs.declared.way.Way.TheVariants.{Ahead, Back}

-- the civil second of a day that comes first in this direction
abbrev pub edge_of : Way → ℕ → ℤ
edge_of Ahead day = pos (day * 86_400)
edge_of Back day = pos (day * 86_400 + 86_399)
