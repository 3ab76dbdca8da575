-- What holds of the fires of every set by every rule and clock.
use Rattle.std.specs.Prelude.{◌≡◌, ℤ, ◌≤ℤ◌, Bool, List, ◌∷◌, ◌++◌}
use Rattle.cron_seconds.specs.Rules.{IsCut, all_after, all_between, all_past, all_past_by}

-- the fires between a and b, and then those between b and c, are those between a and c
abbrev pub StretchesAreJoined : {A : Type 0} → (A → ℤ) → List A → Type 0
StretchesAreJoined at fires =
    (a b c : ℤ)
    → a ≤ℤ b
    → b ≤ℤ c
    → all_between at fires a b ++ all_between at fires b c ≡ all_between at fires a c

-- where the fires after an instant are cut after one of them, those past it are the rest
abbrev pub RunsGoOn : {A : Type 0} → (A → ℤ) → (A → A → Bool) → List A → Type 0
RunsGoOn at is_past fires = (t : ℤ) → IsCut (all_after at fires t) (all_past is_past fires)

-- where the fires past a fire are cut after one of them, those past it are the rest
abbrev pub RunsPastGoOn : {A : Type 0} → (A → A → Bool) → List A → Type 0
RunsPastGoOn {A} is_past fires = (start : A) → IsCut (all_past is_past fires start) (all_past is_past fires)

-- where the fires between two instants are cut after one of them, those past it and up to the
-- second instant are the rest
abbrev pub StretchesGoOn : {A : Type 0} → (A → ℤ) → (A → A → Bool) → List A → Type 0
StretchesGoOn at is_past fires =
    (last now : ℤ) → IsCut (all_between at fires last now) (λ fire. all_past_by at is_past fires fire now)
