-- What a text means: seven sets, or nothing.
use Rattle.std.specs.Prelude.{◌≡◌, ℕ, List, [], ◌∷◌, ◌++◌, ◌⊎◌, Option, Some, None, codes, if◌then◌else◌}
use Rattle.std.specs.Str.{bytes_eq}
use Rattle.cron_units.specs.Units.{TimeUnit, FieldSet, unmarked, whole}
use Rattle.cron_units.specs.Units as units
use Rattle.cron_units.specs.Denotation.{Denotes}
use Rattle.cron_text.specs.Fields.{Item, IsField}
use Rattle.cron_units.specs.Sets.{Sets}
use Rattle.cron_text.specs.Tokens.{Token, tokens, is_space}

-- the units of the six fields that a longhand must have, in order
abbrev pub six_units : List TimeUnit
six_units =
    units.seconds ∷ units.minutes ∷ units.hours ∷ units.days_of_month ∷ units.months ∷ units.days_of_week ∷ []

-- seven sets in the order of their fields
abbrev pub field_sets : Sets → List FieldSet
field_sets s =
    unmarked s.seconds ∷ unmarked s.minutes ∷ unmarked s.hours ∷ s.days_of_month ∷ unmarked s.months ∷ unmarked s.days_of_week ∷ unmarked s.years ∷ []

-- after the six fields: nothing, which means all years, or one field of years
abbrev pub DenoteYears : List Token → FieldSet → Type 0
DenoteYears ts xs =
    ((ts ≡ []) × (xs ≡ unmarked (whole units.years))) ⊎ ((items : List Item) × IsField units.years ts items × Denotes units.years items xs)

-- The tokens are fields of these units, one after another, and years or nothing after them; the fields denote these sets.
abbrev pub DenoteSets : List TimeUnit → List Token → List FieldSet → Type 0
DenoteSets [] ts (xs ∷ []) = DenoteYears ts xs
DenoteSets (u ∷ us) ts (xs ∷ xss) =
    (front : List Token) × (rest : List Token) × (items : List Item) × (ts ≡ front ++ rest) × IsField u front items × Denotes u items xs
    × DenoteSets us rest xss
DenoteSets _ ts _ = ⊥

-- six fields of these units, and years or nothing
abbrev pub IsLonghandBy : List TimeUnit → List ℕ → Sets → Type 0
IsLonghandBy us text s = DenoteSets us (tokens text) (field_sets s)

abbrev pub IsLonghand : List ℕ → Sets → Type 0
IsLonghand text s = IsLonghandBy six_units text s

-- every ordinal of every unit
abbrev pub full : Sets
full = record {
  seconds = whole units.seconds;
  minutes = whole units.minutes;
  hours = whole units.hours;
  days_of_month = unmarked (whole units.days_of_month);
  months = whole units.months;
  days_of_week = whole units.days_of_week;
  years = whole units.years;
}

abbrev pub hourly : Sets
hourly = record full { seconds = 0 ∷ []; minutes = 0 ∷ [] }

abbrev pub daily : Sets
daily = record hourly { hours = 0 ∷ [] }

abbrev pub weekly : Sets
weekly = record daily { days_of_week = 1 ∷ [] }

abbrev pub monthly : Sets
monthly = record daily { days_of_month = unmarked (1 ∷ []) }

abbrev pub yearly : Sets
yearly = record monthly { months = 1 ∷ [] }

-- The first five of the words that stand for a whole schedule, and what they mean. An earlier
-- grammar had only these (`MeantEarlier`).
abbrev pub earlier_shorthands : List (List ℕ × Sets)
earlier_shorthands =
    (codes "@yearly", yearly) ∷ (codes "@monthly", monthly) ∷ (codes "@weekly", weekly) ∷ (codes "@daily", daily) ∷ (codes "@hourly", hourly) ∷ []

-- all the words that stand for a whole schedule, and what they mean
abbrev pub shorthands : List (List ℕ × Sets)
shorthands = earlier_shorthands ++ (codes "@annually", yearly) ∷ (codes "@midnight", daily) ∷ []

abbrev pub meaning_in : List (List ℕ × Sets) → List ℕ → Option Sets
meaning_in [] word = None
meaning_in (e ∷ es) word = if bytes_eq word e.0 then Some e.1 else meaning_in es word

-- what a shorthand means
abbrev pub shorthand_of : List ℕ → Option Sets
shorthand_of word = meaning_in shorthands word

-- a text without the white space at its front
unfoldable pub trimmed_front : List ℕ → List ℕ
trimmed_front [] = []
trimmed_front (c ∷ cs) = if is_space c then trimmed_front cs else c ∷ cs

abbrev pub before_rest : ℕ → List ℕ → List ℕ
before_rest c [] = if is_space c then [] else c ∷ []
before_rest c (d ∷ ds) = c ∷ d ∷ ds

-- a text without the white space at its end
unfoldable pub trimmed_end : List ℕ → List ℕ
trimmed_end [] = []
trimmed_end (c ∷ cs) = before_rest c (trimmed_end cs)

-- without the white space at both ends, the text is one of these words
abbrev pub IsShorthandBy : List (List ℕ × Sets) → List ℕ → Sets → Type 0
IsShorthandBy words text s = meaning_in words (trimmed_end (trimmed_front text)) ≡ Some s

abbrev pub IsShorthand : List ℕ → Sets → Type 0
IsShorthand text s = IsShorthandBy shorthands text s

-- the text means these seven sets, by a grammar of these units and these words
abbrev pub MeansBy : List TimeUnit → List (List ℕ × Sets) → List ℕ → Sets → Type 0
MeansBy us words text s = IsLonghandBy us text s ⊎ IsShorthandBy words text s

-- the text means these seven sets
abbrev pub Means : List ℕ → Sets → Type 0
Means text s = MeansBy six_units shorthands text s

-- the text means no sets
abbrev pub MeansNothing : List ℕ → Type 0
MeansNothing text = (s : Sets) → Means text s → ⊥
