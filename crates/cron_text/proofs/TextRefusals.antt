-- Texts that mean nothing.
use Rattle.std.specs.Prelude.{Result, Ok, Err, OnOk, OnErr}
use Rattle.std.proofs.Common.{◌≡◌, inl, inr, Option, Some, None, List, ℕ, sym, subst}
use Rattle.cron_text.specs.Meaning.{MeansNothing, DenoteSets, six_units, field_sets, shorthand_of, trimmed_front, trimmed_end}
use Rattle.cron_units.specs.Sets.{Sets}
use Rattle.cron_units.specs.Units.{FieldSet}
use Rattle.cron_text.specs.Fault.{IsFaultOf, IsRefusal}
use Rattle.cron_text.specs.Inner.TextReading.{IsRefusalOf}
use Rattle.cron_text.specs.declared.field_texts.Unread.{Unread}
use Rattle.cron_text.specs.Tokens.{Token, tokens}

none_is_some : (o : Option Sets) (s : Sets) → o ≡ None → o ≡ Some s → ⊥
none_is_some o s h k = cc

-- a text that is no shorthand and no longhand
pub nothing_meant : (text : List ℕ) (ts : List Token) → ts ≡ tokens text → shorthand_of (trimmed_end (trimmed_front text)) ≡ None
    → ((xss : List FieldSet) → DenoteSets six_units ts xss → ⊥) → MeansNothing text
nothing_meant text ts same short none s (inl h) =
    none (field_sets s) (subst (λ (zs : List Token). DenoteSets six_units zs (field_sets s)) (sym same) h)
nothing_meant text ts same short none s (inr h) = none_is_some (shorthand_of (trimmed_end (trimmed_front text))) s short h

-- a longhand that was read, or refused with a fault
pub fault_told : (text : List ℕ) (ts : List Token) → ts ≡ tokens text → MeansNothing text → (read : Result (Unit {0}) Unread) (s : Sets) (fault : List ℕ)
    → OnOk read (DenoteSets six_units ts (field_sets s)) → OnErr read (IsRefusalOf six_units ts fault) → IsRefusal text fault
fault_told text ts same nothing (Ok u) s fault sets refused =
    absurd (nothing s (inl (subst (λ (zs : List Token). DenoteSets six_units zs (field_sets s)) same sets)))
fault_told text ts same nothing (Err e) s fault sets refused =
    record { nothing = nothing; told = subst (λ (zs : List Token). IsFaultOf six_units zs fault) same refused.told }
