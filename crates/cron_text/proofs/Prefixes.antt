-- Fields that were taken one after another, before one that is refused.
use Rattle.std.proofs.Common.{ℕ, List, [], ◌∷◌, ◌++◌}
use Rattle.cron_units.specs.Units.{TimeUnit, FieldSet}
use Rattle.cron_text.specs.declared.faults.Fault.{Fault}
use Rattle.cron_text.specs.Fault.{TakesField}
use Rattle.cron_text.specs.Meaning.{DenoteSets}
use Rattle.cron_text.specs.FaultText.{fault_text}
use Rattle.cron_text.specs.Inner.Faults.{IsUnread}
use Rattle.cron_text.specs.Inner.TextReading.{IsRefusalOf}
use Rattle.cron_text.specs.Tokens.{Token}
use Rattle.cron_text.proofs.TextLemmas.{refused_after, sets_after, unread_refused}

-- fields of these units are taken from the tokens, they denote these sets, and this is the rest
pub data Taken : List TimeUnit → List FieldSet → List Token → List Token → Type 0 where
  start : (ts : List Token) → Taken [] [] ts ts
  next : (u : TimeUnit) (us : List TimeUnit) (xs : FieldSet) (xss : List FieldSet) (ts mid rest : List Token) → TakesField u ts xs mid
      → Taken us xss mid rest → Taken (u ∷ us) (xs ∷ xss) ts rest

-- a refusal after them is one of all tokens
pub refused_by : (us vs : List TimeUnit) (xss : List FieldSet) (ts rest : List Token) (text : List ℕ) → Taken us xss ts rest → IsRefusalOf vs rest text
    → IsRefusalOf (us ++ vs) ts text
refused_by us vs xss ts rest text (start ts') r = r
refused_by us vs xss ts rest text (next u us' xs xss' ts' mid rest' t more) r =
    refused_after u (us' ++ vs) ts xs mid text t (refused_by us' vs xss' mid rest text more r)

-- a field that isn't read or is refused, after them
pub unread_by : (us vs : List TimeUnit) (u : TimeUnit) (xss : List FieldSet) (ts rest : List Token) (f : Fault) → Taken us xss ts rest → IsUnread u rest f
    → IsRefusalOf (us ++ u ∷ vs) ts (fault_text f)
unread_by us vs u xss ts rest f t h = refused_by us (u ∷ vs) xss ts rest (fault_text f) t (unread_refused u vs rest f h)

-- the sets of the fields after them are the others of all tokens
pub denoted_by : (us vs : List TimeUnit) (xss yss : List FieldSet) (ts rest : List Token) → Taken us xss ts rest → DenoteSets vs rest yss
    → DenoteSets (us ++ vs) ts (xss ++ yss)
denoted_by us vs xss yss ts rest (start ts') h = h
denoted_by us vs xss yss ts rest (next u us' xs xss' ts' mid rest' t more) h =
    sets_after u (us' ++ vs) ts xs mid (xss' ++ yss) t (denoted_by us' vs xss' yss mid rest more h)
