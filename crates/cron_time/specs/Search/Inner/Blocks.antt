-- A search through blocks of w numbers each: a test of the blocks, and one of the numbers in a block.
use Rattle.std.specs.Prelude.{◌≡◌, ℕ, ◌+◌, ◌-◌, ◌*◌, ◌/◌, ◌%◌, ◌<◌, ℤ, pos, Bool, true, false, Option, Some, None, MatchOption}
use Rattle.cron_units.specs.declared.way.Way.{Way}
use Rattle.cron_units.specs.declared.way.Way.TheVariants.{Ahead, Back}
use Rattle.cron_units.specs.Nearest.{LiesFrom, Precedes}

-- a number passes exactly if its block passes the outer test, and its remainder the inner one there
pub record IsSplit (w : ℕ) (outer : ℕ → Bool) (inner : ℕ → ℕ → Bool) (test : ℕ → Bool) : Type 0 where
  pub block_fails : (n : ℕ) → outer (n / w) ≡ false → test n ≡ false
  pub rest_fails : (n : ℕ) → inner (n / w) (n % w) ≡ false → test n ≡ false
  pub passes : (m r : ℕ) → r < w → outer m ≡ true → inner m r ≡ true → test (m * w + r) ≡ true

-- in the block m, the numbers from the start on are those whose remainders are s or past it
pub record Enters (way : Way) (w : ℕ) (start : ℤ) (m s : ℕ) : Type 0 where
  pub into : (n : ℕ) → LiesFrom way start n → n / w ≡ m → LiesFrom way (pos s) (n % w)
  pub out : (r : ℕ) → r < w → LiesFrom way (pos s) r → LiesFrom way start (m * w + r)

-- no number from the start on passes
abbrev pub AllFail : Way → (ℕ → Bool) → ℤ → Type 0
AllFail way test start = (n : ℕ) → LiesFrom way start n → test n ≡ false

-- a search from the start has come to the block m: it passes the outer test, and no number before it passes
pub record Reaches (way : Way) (w : ℕ) (outer test : ℕ → Bool) (start first : ℤ) (m : ℕ) : Type 0 where
  pub block : outer m ≡ true
  pub lies : LiesFrom way first m
  pub failed : (n : ℕ) → LiesFrom way start n → Precedes way (n / w) m → test n ≡ false

-- the search has come to a block, or to the end: then no number from the start on passes
abbrev pub ReachesIfAny : Way → ℕ → (ℕ → Bool) → (ℕ → Bool) → ℤ → ℤ → Option ℕ → Type 0
ReachesIfAny way w outer test start first next =
    MatchOption next (AllFail way test start) (Reaches way w outer test start first)

-- s is where a block of w numbers is entered from outside
abbrev pub IsExtreme : Way → ℕ → ℕ → Type 0
IsExtreme way w s = (r : ℕ) → r < w → LiesFrom way (pos s) r

-- how many numbers below the limit a search may still come to
abbrev pub left_to_reach : Way → ℕ → Option ℕ → ℕ
left_to_reach way limit None = 0
left_to_reach Ahead limit (Some n) = limit - n
left_to_reach Back limit (Some n) = n + 1
