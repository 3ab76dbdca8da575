-- Entries of one crontab that run the same at the same times.
use Rattle.std.specs.Prelude.{◌≡◌, ◌⊎◌, ◌++◌, ℕ, true, List, [], ◌∷◌, Option, Some, None}
use Rattle.cron_tab_comparing.specs.Entries.{Entry}
use Rattle.cron_tab_comparing.specs.Keys.{same}
use Rattle.cron_tab_comparing.specs.declared.twins.Twin.{Twin}

-- two entries run the same, and their schedules have the same sets
abbrev pub AreTwins : Entry → Entry → Type 0
AreTwins a b = (same a b ≡ true) × (a.schedules ≡ b.schedules)

-- the line of the first of the entries that is a twin of a; `None` exactly if none of them is
abbrev pub IsTwinAmong : List Entry → Entry → Option ℕ → Type 0
IsTwinAmong [] a found = found ≡ None
IsTwinAmong (b ∷ es) a found = (AreTwins b a × (found ≡ Some b.line)) ⊎ ((AreTwins b a → ⊥) × IsTwinAmong es a found)

-- the lines of an entry and of its twin, if it has one
abbrev pub twins_of : Entry → Option ℕ → List Twin
twins_of a None = []
twins_of a (Some above) = record { line = a.line; above = above } ∷ []

-- the list has each entry that comes after the entries `before` and has a twin above it, with the
-- first such twin
abbrev pub AreTwinsOf : List Entry → List Entry → List Twin → Type 0
AreTwinsOf before [] twins = twins ≡ []
AreTwinsOf before (a ∷ es) twins =
    (found : Option ℕ) × (rest : List Twin) × (twins ≡ twins_of a found ++ rest) × IsTwinAmong before a found × AreTwinsOf (before ++ a ∷ []) es rest
