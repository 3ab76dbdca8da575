-- The fault of a text that means nothing: which message it gets.
use Rattle.std.specs.Prelude.{◌≡◌, ℕ, List, [], ◌∷◌, ◌++◌, ◌⊎◌, codes}
use Rattle.cron_units.specs.Units.{TimeUnit, FieldSet}
use Rattle.cron_units.specs.Denotation.{Denotes}
use Rattle.cron_units.specs.Refusals.{Refusal, IsFirstRefusal, message}
use Rattle.cron_text.specs.Fields.{Item, IsField}
use Rattle.cron_text.specs.Meaning.{six_units, DenoteYears, MeansNothing}
use Rattle.cron_text.specs.Tokens.{Token, tokens}

-- `front` is the longest beginning of the tokens ts that is a field of the unit, with these items
pub record IsLongestField (u : TimeUnit) (ts front rest : List Token) (items : List Item) : Type 0 where
  pub cut : ts ≡ front ++ rest
  pub field : IsField u front items
  pub longest : (more after : List Token) (js : List Item) → rest ≡ more ++ after → IsField u (front ++ more) js → more ≡ []

-- no beginning of the tokens is a field of the unit
abbrev pub NoField : TimeUnit → List Token → Type 0
NoField u ts = (front rest : List Token) (items : List Item) → ts ≡ front ++ rest → IsField u front items → ⊥

-- the longest field at the beginning of the tokens ts denotes the set xs, and `rest` follows it
pub record TakesField (u : TimeUnit) (ts : List Token) (xs : FieldSet) (rest : List Token) : Type 0 where
  pub front : List Token
  pub items : List Item
  pub longest : IsLongestField u ts front rest items
  pub denotes : Denotes u items xs

-- the longest field at the beginning of the tokens is refused, with the message of its first
-- refused item
pub record RefusesField (u : TimeUnit) (ts : List Token) (text : List ℕ) : Type 0 where
  pub front : List Token
  pub rest : List Token
  pub items : List Item
  pub refusal : Refusal
  pub longest : IsLongestField u ts front rest items
  pub first : IsFirstRefusal u items refusal
  pub told : text ≡ message u refusal

-- Fields are taken from the left, each the longest at the beginning of what is left. The first
-- refused one is refused with this message.
abbrev pub IsRefused : List TimeUnit → List Token → List ℕ → Type 0
IsRefused [] ts text = ⊥
IsRefused (u ∷ us) ts text =
    RefusesField u ts text ⊎ ((xs : FieldSet) × (rest : List Token) × TakesField u ts xs rest × IsRefused us rest text)

-- the message about a text that can't be read, or whose seventh field is refused
abbrev pub syntax_text : List ℕ
syntax_text = codes "Invalid cron expression."

-- the message of the first refused field; in every other case the syntax text
abbrev pub IsFaultOf : List TimeUnit → List Token → List ℕ → Type 0
IsFaultOf us ts text =
    IsRefused us ts text ⊎ (((other : List ℕ) → IsRefused us ts other → ⊥) × (text ≡ syntax_text))

-- the fault of a text that means nothing: the seventh field has no message of its own
abbrev pub IsFault : List ℕ → List ℕ → Type 0
IsFault text fault = IsFaultOf six_units (tokens text) fault

-- the text means nothing, and this is its fault
pub record IsRefusal (text fault : List ℕ) : Type 0 where
  pub nothing : MeansNothing text
  pub told : IsFault text fault

-- The longest fields, taken one after another from the left, use up all tokens: fields of these
-- units that denote these sets, and then years or nothing.
abbrev pub TakeSets : List TimeUnit → List Token → List FieldSet → Type 0
TakeSets [] ts (xs ∷ []) = DenoteYears ts xs
TakeSets (u ∷ us) ts (xs ∷ xss) = (rest : List Token) × TakesField u ts xs rest × TakeSets us rest xss
TakeSets _ ts _ = ⊥
