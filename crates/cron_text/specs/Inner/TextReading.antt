-- What the fault of refused fields is: a word of the reader's inner functions, which no public
-- contract cites.
use Rattle.std.specs.Prelude.{ℕ, List}
use Rattle.cron_units.specs.Units.{TimeUnit, FieldSet}
use Rattle.cron_text.specs.Fault.{IsFaultOf}
use Rattle.cron_text.specs.Meaning.{DenoteSets}
use Rattle.cron_text.specs.Tokens.{Token}

-- the tokens denote no sets as fields of these units and of years or nothing, and this is their fault
pub record IsRefusalOf (us : List TimeUnit) (ts : List Token) (fault : List ℕ) : Type 0 where
  pub nothing : (xss : List FieldSet) → DenoteSets us ts xss → ⊥
  pub told : IsFaultOf us ts fault
