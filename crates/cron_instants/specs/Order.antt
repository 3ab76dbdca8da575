-- The order of items by instants.
use Rattle.std.specs.Prelude.{ℕ, ℤ, Bool, ◌&&◌, ◌||◌, int_lt, nat_lt}
use Rattle.std.specs.Ordering.{int_eq}
use Rattle.cron_moments.specs.Readings.{Reading, instant}

-- one instant and civil second come before another: by instant, or by civil second if they share
-- the instant
abbrev pub comes_before : ℤ → ℕ → ℤ → ℕ → Bool
comes_before i c j d = int_lt i j || (int_eq i j && nat_lt c d)

-- one item is earlier than another: by instant, or by civil second if they share the instant
abbrev pub is_earlier : Reading → Reading → Bool
is_earlier a b = comes_before (instant a) a.second (instant b) b.second
