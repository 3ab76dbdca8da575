-- Laws over the meaning of texts.
use Rattle.std.specs.Prelude.{◌≡◌, ◌↔◌, ℕ, false, List, map}
use Rattle.cron_text.specs.Fault.{TakeSets, IsFault}
use Rattle.cron_text.specs.Meaning.{six_units, field_sets, earlier_shorthands, IsShorthand, MeansBy, Means}
use Rattle.cron_units.specs.Units.{without_last_day}
use Rattle.cron_units.specs.Sets.{Sets, AreSets}
use Rattle.cron_text.specs.Tokens.{tokens}

-- a text is in the grammar if it means some sets
abbrev pub IsInGrammar : List ℕ → Type 0
IsInGrammar text = (s : Sets) × Means text s

-- a text means at most one schedule: the same seven sets each time
abbrev pub MeansOnce : Type 0
MeansOnce = (text : List ℕ) (a b : Sets) → Means text a → Means text b → a ≡ b

-- what a text means are sets of the units, none of them empty; days of the month are numbered, or marked
abbrev pub MeansSets : Type 0
MeansSets = (text : List ℕ) (s : Sets) → Means text s → AreSets s

-- A text that is no shorthand is in the grammar exactly if its longest fields, taken from the left,
-- are six or seven that denote sets, with nothing left over.
abbrev pub LongestFrontsAgree : Type 0
LongestFrontsAgree =
    (text : List ℕ) → ((s : Sets) → IsShorthand text s → ⊥) → IsInGrammar text ↔ ((s : Sets) × TakeSets six_units (tokens text) (field_sets s))

-- a text has at most one fault
abbrev pub HasOneFault : Type 0
HasOneFault = (text a b : List ℕ) → IsFault text a → IsFault text b → a ≡ b

-- what a text means by an earlier grammar, without a word for the last day of the month, and with
-- only the first five shorthands
abbrev pub MeantEarlier : List ℕ → Sets → Type 0
MeantEarlier text s = MeansBy (map without_last_day six_units) earlier_shorthands text s

-- a text that means seven sets by the earlier grammar (`MeantEarlier`) still means them, without
-- the mark of the last day
abbrev pub KeepsItsMeaning : Type 0
KeepsItsMeaning = (text : List ℕ) (s : Sets) → MeantEarlier text s → Means text s × (s.days_of_month.last_day ≡ false)
