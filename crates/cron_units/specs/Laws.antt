-- Each of the seven units satisfies `IsUnit`.
use Rattle.std.specs.Prelude.{◌≡◌, ◌≤◌, ℕ, Bool, true, ◌&&◌, List, [], ◌∷◌, nat_le}
use Rattle.std.specs.List.{AllByRecursion}
use Rattle.std.proofs.Common.{arith, refl}
use Rattle.std.proofs.lemmas.Bool.{and_parts, leb-true}
use Rattle.cron_units.specs.Units.{IsUnit, without_last_day, seconds, minutes, hours, days_of_month, months, month_names, days_of_week, day_names, years}

-- every name's ordinal is within the bounds, as a test
abbrev names_fit : ℕ → ℕ → List (List ℕ × ℕ) → Bool
names_fit least greatest [] = true
names_fit least greatest (e ∷ es) = (nat_le least e.1 && nat_le e.1 greatest) && names_fit least greatest es

fitting : (least greatest : ℕ) (es : List (List ℕ × ℕ)) → names_fit least greatest es ≡ true → AllByRecursion (λ e. (least ≤ e.1) × (e.1 ≤ greatest)) es
fitting least greatest [] h = tt
fitting least greatest (e ∷ es) h =
    let both = and_parts (nat_le least e.1 && nat_le e.1 greatest) (names_fit least greatest es) h in
    let bounds = and_parts (nat_le least e.1) (nat_le e.1 greatest) both.0 in
    ((leb-true least e.1 bounds.0, leb-true e.1 greatest bounds.1), fitting least greatest es both.1)

pub is_unit-seconds : IsUnit seconds
is_unit-seconds = record { ordered = omega arith; countable = omega arith; names = tt }

pub is_unit-minutes : IsUnit minutes
is_unit-minutes = record { ordered = omega arith; countable = omega arith; names = tt }

pub is_unit-hours : IsUnit hours
is_unit-hours = record { ordered = omega arith; countable = omega arith; names = tt }

pub is_unit-days_of_month : IsUnit days_of_month
is_unit-days_of_month = record { ordered = omega arith; countable = omega arith; names = tt }

-- the days of a month by their numbers alone
pub is_unit-numbered_days : IsUnit (without_last_day days_of_month)
is_unit-numbered_days = record { ordered = omega arith; countable = omega arith; names = tt }

pub is_unit-months : IsUnit months
is_unit-months = record { ordered = omega arith; countable = omega arith; names = fitting 1 12 month_names.ordinals refl }

pub is_unit-days_of_week : IsUnit days_of_week
is_unit-days_of_week = record { ordered = omega arith; countable = omega arith; names = fitting 1 7 day_names.ordinals refl }

pub is_unit-years : IsUnit years
is_unit-years = record { ordered = omega arith; countable = omega arith; names = tt }
