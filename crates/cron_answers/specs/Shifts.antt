-- Signed amounts of time: `+8h`, `-90m`, `+2d`.
use Rattle.std.specs.Prelude.{◌≡◌, ◌⊎◌, ◌++◌, ◌*ℤ◌, ℕ, ℤ, pos, neg_ℤ, List, codes}
use Rattle.std.specs.Str.Parse.{digits_value}
use Rattle.cron_walk_listing.specs.Arguments.{IsCount}

-- the text is a sign, a decimal number that fits 32 bits, and a unit
abbrev pub IsCountOf : List ℕ → List ℕ → List ℕ → ℕ → Type 0
IsCountOf sign unit text n = (digits : List ℕ) × (text ≡ sign ++ (digits ++ unit)) × IsCount digits × (n ≡ digits_value 10 digits)

-- the text is a signed number of units: `+` goes ahead by n of them, and `-` goes back
abbrev pub IsSigned : List ℕ → List ℕ → ℤ → Type 0
IsSigned unit text n =
    ((k : ℕ) × IsCountOf (codes "+") unit text k × (n ≡ pos k))
    ⊎ ((k : ℕ) × IsCountOf (codes "-") unit text k × (n ≡ neg_ℤ (pos k)))

-- the text is a signed number of units, which are n when each counts as `size`
abbrev pub IsAmount : List ℕ → ℕ → List ℕ → ℤ → Type 0
IsAmount unit size text n = (k : ℤ) × IsSigned unit text k × (n ≡ k *ℤ pos size)

-- the text is a number of seconds, minutes or hours, which are n seconds
abbrev pub IsSecondsAway : List ℕ → ℤ → Type 0
IsSecondsAway text n = IsSigned (codes "s") text n ⊎ IsAmount (codes "m") 60 text n ⊎ IsAmount (codes "h") 3600 text n

-- the text is a number of days or weeks, which are n days
abbrev pub IsDaysAway : List ℕ → ℤ → Type 0
IsDaysAway text n = IsSigned (codes "d") text n ⊎ IsAmount (codes "w") 7 text n
