-- Fires of two lists that collide, where all last equally long. A fire is given by the second when
-- it begins.
use Rattle.std.specs.Prelude.{◌≡◌, ◌≤◌, ◌<◌, ◌&&◌, ℕ, ℤ, pos, ◌+ℤ◌, ◌≤ℤ◌, int_lt, Bool, true, List, Option, Some, MatchOption, length, slice_get, slice_index_or}
use Rattle.std.specs.List.{count_by, sum_by}
use Rattle.cron_collisions.specs.declared.collisions.Collisions.{Collisions}

-- no second of the list is less than one before it
abbrev pub Ascends : List ℤ → Type 0
Ascends ss = (i j : ℕ) (d : ℤ) → i ≤ j → j < length ss → slice_index_or ss i d ≤ℤ slice_index_or ss j d

-- two fires collide: each begins before the other ends
abbrev pub collide : ℕ → ℤ → ℤ → Bool
collide length s t = int_lt s (t +ℤ pos length) && int_lt t (s +ℤ pos length)

-- how many pairs of a fire of the one list and a fire of the other collide
abbrev pub pairs : ℕ → List ℤ → List ℤ → ℕ
pairs length ss ts = sum_by (λ s. count_by (collide length s) ts) ss

-- the fire at the index i of the one list and the fire at the index j of the other collide
abbrev pub CollideAt : ℕ → List ℤ → List ℤ → ℕ → ℕ → Type 0
CollideAt length ss ts i j = (s : ℤ) × (t : ℤ) × (slice_get ss i ≡ Some s) × (slice_get ts j ≡ Some t) × (collide length s t ≡ true)

-- the fires at i and j collide, and in either list no earlier fire collides with any
pub record CollideFirst (length : ℕ) (ss ts : List ℤ) (i j : ℕ) : Type 0 where
  pub collide : CollideAt length ss ts i j
  pub first : (k l : ℕ) → CollideAt length ss ts k l → (i ≤ k) × (j ≤ l)

-- how many pairs collide, and the places of the first two fires that do; `None` if none does
abbrev pub AreCollisions : ℕ → List ℤ → List ℤ → Option Collisions → Type 0
AreCollisions length ss ts answer =
    MatchOption answer (pairs length ss ts ≡ 0) (λ c. (c.pairs ≡ pairs length ss ts) × CollideFirst length ss ts c.first c.second)
