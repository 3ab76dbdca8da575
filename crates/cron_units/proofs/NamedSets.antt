-- What names add to a set.
use Rattle.std.proofs.Common.{◌≡◌, ◌≤◌, ℕ, Bool, false, ◌||◌, List, Option, Some, None, Ok, refl, sym, ap, ◌∙◌, Bor}
use Rattle.std.specs.Prelude.{is_some}
use Rattle.std.specs.Option.{option_map}
use Rattle.std.proofs.Math.Bool.{or-false}
use Rattle.std.proofs.lemmas.Bool.{le-ltb, false≢true}
use Rattle.cron_units.specs.Denotation.{AddsItem}
use Rattle.cron_units.specs.Inner.ItemSteps.{by_steps, of_steps, denoted_by, each_of, one_ordinal, found_name, name_ends}
use Rattle.cron_units.specs.Items.{name, plain, name_range}
use Rattle.cron_units.specs.Steps.{Progression, in_steps}
use Rattle.cron_units.specs.Tables.{definition_view}
use Rattle.cron_units.specs.Units.{TimeUnit, IsUnit, IsSet, contains, is_name, ordinal_of, set_of, with_mark}
use Rattle.cron_units.specs.declared.time_unit.definition.Definition.{Definition}
use Rattle.cron_units.proofs.DenotedSets.{adds_item}
use Rattle.cron_units.proofs.Marks.{steps_denoted}

none_mapped : {A B : Type 0} (f : A → B) (o : Option A) → is_some o ≡ false → option_map f o ≡ None
none_mapped f None h = refl
none_mapped f (Some x) h = absurd (false≢true (sym h))

-- a unit whose table has no word for the last day of the month
pub no_word : (u : TimeUnit) (d : Definition) → definition_view d ≡ u → is_some d.last_day ≡ false → u.last_day ≡ None
no_word u d e h = ap (λ (v : TimeUnit). v.last_day) (sym e) ∙ none_mapped (λ (w : Bor (List ℕ)). w.now) d.last_day h

-- One name adds its ordinal.
pub adds_name : (u : TimeUnit) (w : List ℕ) (n : ℕ) (xs ys : List ℕ) (m k : Bool) → IsUnit u → u.last_day ≡ None → ordinal_of u w ≡ Some n → IsSet u xs
    → ys ≡ set_of u (λ x. contains xs x || in_steps (record { first = n; last = n; every = 1 }) x) → k ≡ m
    → AddsItem u (name w) (with_mark xs m) (with_mark ys k)
adds_name u w n xs ys m k is none found set e same =
    let s : Progression = record { first = n; last = n; every = 1 } in
    let denoted : denoted_by u (name w) ≡ Ok (by_steps s) = steps_denoted u (name w) (ap (λ (last : Option (List ℕ)). is_name last w) none)
    ∙ ap (λ (o : Option ℕ). of_steps (one_ordinal (found_name w o))) found in
    adds_item u (name w) (by_steps s) xs ys m k is denoted set e (same ∙ sym (or-false m))

range_of : (v w : List ℕ) (a b : ℕ) → a ≤ b → of_steps (each_of (name_ends v w (Ok a) (Ok b))) ≡ Ok (by_steps (record { first = a; last = b; every = 1 }))
range_of v w a b l = rw (le-ltb b a l) refl

-- Two names add what lies between their ordinals.
pub adds_names : (u : TimeUnit) (v w : List ℕ) (a b : ℕ) (xs ys : List ℕ) (m k : Bool) → IsUnit u → ordinal_of u v ≡ Some a → ordinal_of u w ≡ Some b
    → a ≤ b → IsSet u xs → ys ≡ set_of u (λ x. contains xs x || in_steps (record { first = a; last = b; every = 1 }) x) → k ≡ m
    → AddsItem u (plain (name_range v w)) (with_mark xs m) (with_mark ys k)
adds_names u v w a b xs ys m k is first last l set e same =
    let s : Progression = record { first = a; last = b; every = 1 } in
    let denoted : denoted_by u (plain (name_range v w)) ≡ Ok (by_steps s) = steps_denoted u (plain (name_range v w)) refl
    ∙ (ap (λ (o : Option ℕ). of_steps (each_of (name_ends v w (found_name v o) (found_name w (ordinal_of u w))))) first
    ∙ (ap (λ (o : Option ℕ). of_steps (each_of (name_ends v w (Ok a) (found_name w o)))) last ∙ range_of v w a b l)) in
    adds_item u (plain (name_range v w)) (by_steps s) xs ys m k is denoted set e (same ∙ sym (or-false m))
