-- Questions, which are look-ups of the nearest member of a set, and how a counter counts them. A
-- counter has a relation: that a number of questions leads from one state of it to another.
use Rattle.std.specs.Prelude.{◌≡◌, ℕ, ◌+◌, ◌*◌, ◌%◌, ◌^◌, ◌≤◌, ◌-◌, ◌⊎◌, Option, Some, None}
use Rattle.std.proofs.Common.{arith}
use Rattle.cron_units.specs.declared.way.Way.{Way}
use Rattle.cron_units.specs.declared.way.Way.TheVariants.{Ahead, Back}

-- some questions and then others are counted together
abbrev pub Joins : {C : Type 0} → (ℕ → C → C → Type 0) → Type 0
Joins {C} Counts = (m n : ℕ) (a b c : C) → Counts m a b → Counts n b c → Counts (m + n) a c

-- a number went up by n; it is 0 again after 2 ^ 64 - 1
abbrev pub GoesUp : ℕ → ℕ → ℕ → Type 0
GoesUp n old new = new ≡ (old + n) % 2 ^ 64

pub goes_up-joins : Joins GoesUp
goes_up-joins m n a b c h k = omega (arith, h, k)

-- the questions for the nearest number of `parts` units: without an answer 1 to 2 * parts - 1, with
-- one parts to 3 * parts - 2
abbrev pub IsCount : ℕ → Option ℕ → ℕ → Type 0
IsCount parts None n = (1 ≤ n) × (n + 1 ≤ 2 * parts)
IsCount parts (Some k) n = (parts ≤ n) × (n + 2 ≤ 3 * parts)

-- the counter counted as many questions as a search for the nearest number of `parts` units takes
pub record AsksFor {C : Type 0} (Counts : ℕ → C → C → Type 0) (parts : ℕ) (found : Option ℕ) (old new : C) : Type 0 where
  pub count : ℕ
  pub asks : Counts count old new
  pub is_count : IsCount parts found count

-- the questions for the nearest number past a block: none or one without an answer, and else one
-- for the block and one for each unit inside
abbrev pub AsksPast : {C : Type 0} → (ℕ → C → C → Type 0) → ℕ → Option ℕ → C → C → Type 0
AsksPast Counts parts None old new = (new ≡ old) ⊎ Counts 1 old new
AsksPast Counts parts (Some k) old new = Counts (1 + parts) old new

-- the number below a limit at which a search of all numbers starts
abbrev pub outermost : Way → ℕ → ℕ
outermost Ahead limit = 0
outermost Back limit = limit - 1
