-- What holds of the stretches of every function.
use Rattle.std.specs.Prelude.{◌≡◌, ℕ, ℤ, ◌-ℤ◌, ◌≤ℤ◌, ◌<ℤ◌, Bool, true, false, if◌then◌else◌, List, [], ◌∷◌, Some, slice_get}
use Rattle.std.specs.List.{sum_by}
use Rattle.cron_stretches.specs.declared.stretch.Stretch.{Stretch}
use Rattle.cron_stretches.specs.Stretches.{IsAlike, count_between, seconds_from, stretches_between}

-- the test says which values are equal
pub record IsEquality {A : Type 0} (eq : A → A → Bool) : Type 0 where
  pub itself : (a : A) → eq a a ≡ true
  pub same : (a b : A) → eq a b ≡ true → a ≡ b

-- the first of some stretches has another value, if there is one
abbrev pub BeginsUnlike : {A : Type 0} → (A → A → Bool) → A → List (Stretch A) → Type 0
BeginsUnlike eq v [] = Unit {0}
BeginsUnlike eq v (s ∷ l) = eq v s.value ≡ false

-- the first begins at `first`, each begins where the one before it ends and has another value than
-- that, and the last ends at `end`
abbrev pub IsRow : {A : Type 0} → (A → A → Bool) → ℤ → ℤ → List (Stretch A) → Type 0
IsRow eq first end [] = first ≡ end
IsRow eq first end (s ∷ l) = (s.first ≡ first) × (first <ℤ s.end) × BeginsUnlike eq s.value l × IsRow eq s.end end l

-- the stretches between two seconds are a row from the one to the other
abbrev pub AreRows : Type 0 → Type 0
AreRows A =
    (eq : A → A → Bool) (value : ℤ → A) (from to : ℤ)
    → IsEquality eq
    → from ≤ℤ to
    → IsRow eq from to (stretches_between eq value from to)

-- a listed stretch that has the second t
pub record HasSecond {A : Type 0} (l : List (Stretch A)) (t : ℤ) : Type 0 where
  pub stretch : Stretch A
  pub place : ℕ
  pub here : slice_get l place ≡ Some stretch
  pub from : stretch.first ≤ℤ t
  pub to : t <ℤ stretch.end

-- each listed stretch has seconds of one value, its own, and each second lies in one
abbrev pub HoldTheirSeconds : Type 0 → Type 0
HoldTheirSeconds A =
    (eq : A → A → Bool) (value : ℤ → A) (from to : ℤ)
    → IsEquality eq
    → ((place : ℕ) (s : Stretch A) → slice_get (stretches_between eq value from to) place ≡ Some s → IsAlike value s)
    × ((t : ℤ) → from ≤ℤ t → t <ℤ to → HasSecond (stretches_between eq value from to) t)

-- how long a stretch is, if its value passes a test, and else 0
abbrev pub length_if : {A : Type 0} → (A → Bool) → Stretch A → ℕ
length_if test s = if test s.value then seconds_from (s.end -ℤ s.first) else 0

-- the lengths of the stretches whose value passes a test add up to the number of seconds that have such a value
abbrev pub SecondsAddUp : Type 0 → Type 0
SecondsAddUp A =
    (eq : A → A → Bool) (value : ℤ → A) (test : A → Bool) (from to : ℤ)
    → IsEquality eq
    → sum_by (length_if test) (stretches_between eq value from to) ≡ count_between (λ t. test (value t)) from to
