-- The places of a unit's ordinals: place 0 is for the least ordinal, place 1 for the next, and so
-- on.
use Rattle.std.specs.Prelude.{◌≡◌, ◌<◌, ◌+◌, ◌-◌, ℕ, Bool, false, List, filter}
use Rattle.std.specs.List.{range_with_len}
use Rattle.cron_units.specs.Units.{TimeUnit, contains}

-- of the `size` numbers from `least` on, those whose places pass the test `taken`, in ascending
-- order
unfoldable pub listed : ℕ → ℕ → (ℕ → Bool) → List ℕ
listed least size taken = filter (λ x. taken (x - least)) (range_with_len least size)

-- the ordinals of a unit whose places pass the test `taken`, in ascending order
abbrev pub placed : TimeUnit → (ℕ → Bool) → List ℕ
placed u taken = listed u.least (u.greatest + 1 - u.least) taken

-- no place after the place of the greatest ordinal passes the test
abbrev pub NonePast : TimeUnit → (ℕ → Bool) → Type 0
NonePast u taken = (k : ℕ) → u.greatest < u.least + k → taken k ≡ false

-- The invariant of a set's words: each has 64 bits, no bit after the greatest ordinal's is 1, and
-- they can be made again from the members.
pub record IsLaidOut (u : TimeUnit) {W : Type 0} (IsFit : W → Type 0) (has : W → ℕ → Bool) (made : (ℕ → Bool) → W) (words : W) : Type 0 where
  pub fit : IsFit words
  pub none_past : NonePast u (has words)
  pub remade : made (λ k. contains (placed u (has words)) (u.least + k)) ≡ words
