-- Numbers that ascend by a constant step.
use Rattle.std.specs.Prelude.{◌≡◌, ℕ, ◌==◌, ◌+◌, ◌-◌, ◌%◌, Bool, true, false, ◌&&◌, List, [], ◌∷◌, nat_le, nat_lt, slice_index}
use Rattle.cron_units.specs.Units.{TimeUnit, contains}
use Rattle.cron_words.specs.declared.progressions.Progression.{Progression}

-- each of the numbers is k more than the one before it, the first of them k more than n
abbrev pub goes_by : ℕ → ℕ → List ℕ → Bool
goes_by k n [] = true
goes_by k n (m ∷ ns) = n + k == m && goes_by k m ns

-- the last of n and the numbers after it
abbrev pub last_from : ℕ → List ℕ → ℕ
last_from n [] = n
last_from n (m ∷ ns) = last_from m ns

abbrev pub first : List ℕ → ℕ
first ns = slice_index ns 0

abbrev pub last : List ℕ → ℕ
last [] = 0
last (n ∷ ns) = last_from n ns

-- how much the second number is more than the first
abbrev pub step : List ℕ → ℕ
step ns = slice_index ns 1 - slice_index ns 0

-- the first, the last and the step of such numbers
abbrev pub progression : List ℕ → Progression
progression ns = record { first = first ns; last = last ns; step = step ns }

-- two numbers or more that ascend by a constant step
abbrev pub is_progression : List ℕ → Bool
is_progression [] = false
is_progression (n ∷ []) = false
is_progression (n ∷ m ∷ ns) = nat_lt n m && goes_by (m - n) m ns

-- The numbers ascend by a constant step from the least of the unit, and one step more comes round to
-- the least again: `0, 15, 30, 45` of minutes.
unfoldable pub goes_round : TimeUnit → List ℕ → Bool
goes_round u ns = is_progression ns && (first ns == u.least && last ns + step ns == u.greatest + 1)

-- one number, or numbers that follow one another
abbrev pub follow_on : List ℕ → Bool
follow_on [] = false
follow_on (n ∷ ns) = goes_by 1 n ns

-- a progression has those numbers from its first to its last at which its step comes round
abbrev pub StepsComeRound : Type 0
StepsComeRound =
    (ns : List ℕ) (x : ℕ) → is_progression ns ≡ true
    → contains ns x ≡ (nat_le (first ns) x && (nat_le x (last ns) && (x - first ns) % step ns == 0))
