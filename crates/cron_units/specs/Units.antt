-- The units of a schedule, and their sets of ordinals.
use Rattle.std.specs.Prelude.{◌≡◌, ◌≤◌, ◌<◌, ◌+◌, ◌-◌, ◌^◌, ℕ, Bool, true, false, List, [], ◌∷◌, Option, Some, None, filter, codes, nat_eq, if◌then◌else◌}
use Rattle.std.specs.List.{range_with_len, AllByRecursion, list_any}
use Rattle.std.specs.Str.{str_eq_ignore_ascii_case}

-- the names of a unit's ordinals in small letters, and what messages call such a name
pub record Names : Type 0 where
  pub noun : List ℕ
  pub ordinals : List (List ℕ × ℕ)

-- a unit: what messages call it, its bounds, its names if it has any, whether `?` stands for the whole range, and the name
-- that means the last day of the month, if it has one
pub record TimeUnit : Type 0 where
  pub title : List ℕ
  pub least : ℕ
  pub greatest : ℕ
  pub names : Option Names
  pub question_mark : Bool
  pub last_day : Option (List ℕ)

-- the set of one field: its ordinals, in ascending order, and whether the last day of the month is one more
pub record FieldSet : Type 0 where
  pub ordinals : List ℕ
  pub last_day : Bool

abbrev pub with_mark : List ℕ → Bool → FieldSet
with_mark xs mark = record { ordinals = xs; last_day = mark }

-- a set of ordinals without the mark of the last day of the month
abbrev pub unmarked : List ℕ → FieldSet
unmarked xs = with_mark xs false

-- the ordinals of a unit, in ascending order
unfoldable pub whole : TimeUnit → List ℕ
whole u = range_with_len u.least (u.greatest + 1 - u.least)

-- the ordinal of a name, in any case of its letters
abbrev pub named_in : List (List ℕ × ℕ) → List ℕ → Option ℕ
named_in [] name = None
named_in (e ∷ es) name = if str_eq_ignore_ascii_case e.0 name then Some e.1 else named_in es name

abbrev pub named_by : Option Names → List ℕ → Option ℕ
named_by None name = None
named_by (Some names) name = named_in names.ordinals name

abbrev pub ordinal_of : TimeUnit → List ℕ → Option ℕ
ordinal_of u name = named_by u.names name

abbrev pub is_name : Option (List ℕ) → List ℕ → Bool
is_name None name = false
is_name (Some last) name = str_eq_ignore_ascii_case last name

-- the name means the last day of the month, in any case of its letters
abbrev pub means_last_day : TimeUnit → List ℕ → Bool
means_last_day u name = is_name u.last_day name

-- the unit without a word for the last day of the month
abbrev pub without_last_day : TimeUnit → TimeUnit
without_last_day u = record u { last_day = None }

-- whether a number is a member
abbrev pub contains : List ℕ → ℕ → Bool
contains xs x = list_any (nat_eq x) xs

-- the ordinals of a unit at which a test is true, in ascending order
abbrev pub set_of : TimeUnit → (ℕ → Bool) → List ℕ
set_of u test = filter test (whole u)

-- the list is a set of the unit: ordinals of the unit, in ascending order and each once
abbrev pub IsSet : TimeUnit → List ℕ → Type 0
IsSet u xs = xs ≡ set_of u (contains xs)

-- a unit's names with their ordinals, or the empty list if it has no names
abbrev pub named_ordinals : Option Names → List (List ℕ × ℕ)
named_ordinals None = []
named_ordinals (Some names) = names.ordinals

-- what each unit keeps to: the least bound isn't above the greatest, every name's ordinal is within them, and 32 bits count the ordinals
pub record IsUnit (u : TimeUnit) : Type 0 where
  pub ordered : u.least ≤ u.greatest
  pub countable : u.greatest + 1 < 2 ^ 32
  pub names : AllByRecursion (λ e. (u.least ≤ e.1) × (e.1 ≤ u.greatest)) (named_ordinals u.names)

abbrev pub seconds : TimeUnit
seconds = record { title = codes "Seconds"; least = 0; greatest = 59; names = None; question_mark = false; last_day = None }

abbrev pub minutes : TimeUnit
minutes = record { title = codes "Minutes"; least = 0; greatest = 59; names = None; question_mark = false; last_day = None }

abbrev pub hours : TimeUnit
hours = record { title = codes "Hours"; least = 0; greatest = 23; names = None; question_mark = false; last_day = None }

abbrev pub days_of_month : TimeUnit
days_of_month =
    record { title = codes "Days of Month"; least = 1; greatest = 31; names = None; question_mark = true; last_day = Some (codes "L") }

abbrev pub month_names : Names
month_names = record {
  noun = codes "month name";
  ordinals =
      (codes "jan", 1) ∷ (codes "january", 1)
      ∷ (codes "feb", 2) ∷ (codes "february", 2)
      ∷ (codes "mar", 3) ∷ (codes "march", 3)
      ∷ (codes "apr", 4) ∷ (codes "april", 4)
      ∷ (codes "may", 5)
      ∷ (codes "jun", 6) ∷ (codes "june", 6)
      ∷ (codes "jul", 7) ∷ (codes "july", 7)
      ∷ (codes "aug", 8) ∷ (codes "august", 8)
      ∷ (codes "sep", 9) ∷ (codes "september", 9)
      ∷ (codes "oct", 10) ∷ (codes "october", 10)
      ∷ (codes "nov", 11) ∷ (codes "november", 11)
      ∷ (codes "dec", 12) ∷ (codes "december", 12) ∷ [];
}

abbrev pub months : TimeUnit
months = record { title = codes "Months"; least = 1; greatest = 12; names = Some month_names; question_mark = false; last_day = None }

-- the names of the days of the week, where Sunday is 1
abbrev pub day_names : Names
day_names = record {
  noun = codes "day of the week";
  ordinals =
      (codes "sun", 1) ∷ (codes "sunday", 1)
      ∷ (codes "mon", 2) ∷ (codes "monday", 2)
      ∷ (codes "tue", 3) ∷ (codes "tues", 3) ∷ (codes "tuesday", 3)
      ∷ (codes "wed", 4) ∷ (codes "wednesday", 4)
      ∷ (codes "thu", 5) ∷ (codes "thurs", 5) ∷ (codes "thursday", 5)
      ∷ (codes "fri", 6) ∷ (codes "friday", 6)
      ∷ (codes "sat", 7) ∷ (codes "saturday", 7) ∷ [];
}

abbrev pub days_of_week : TimeUnit
days_of_week = record { title = codes "Days of Week"; least = 1; greatest = 7; names = Some day_names; question_mark = true; last_day = None }

abbrev pub years : TimeUnit
years = record { title = codes "Years"; least = 1970; greatest = 2100; names = None; question_mark = false; last_day = None }
