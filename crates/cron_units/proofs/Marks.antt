-- What an item adds to a set.
use Rattle.std.proofs.Common.{◌≡◌, ℕ, Bool, true, false, ◌||◌, List, Option, Some, None, Result, Ok, Err, IfErr, refl, sym, ◌∙◌}
use Rattle.std.specs.Prelude.{is_some}
use Rattle.std.proofs.Math.Bool.{or-false}
use Rattle.std.proofs.lemmas.Bool.{false≢true}
use Rattle.cron_units.specs.Inner.ItemSteps.{the_last_day, of_steps, steps_of, names_last_day, denoted_by, in_denoted}
use Rattle.cron_units.specs.Items.{Item, plain, stepped, name}
use Rattle.cron_units.proofs.SetLemmas.{set_same}
use Rattle.cron_units.specs.Refusals.{IsRefusedFor}
use Rattle.cron_units.specs.Units.{TimeUnit, IsUnit, IsSet, contains, set_of, is_name}
use Rattle.cron_units.specs.Views.{refusal_view}
use Rattle.cron_units.specs.declared.specifier.Refusal.{Refusal}
use Rattle.cron_units.proofs.Denoting.{refused}

-- the unit's word for the last day of the month
pub last_denoted : (u : TimeUnit) (i : Item) → names_last_day u i ≡ true → denoted_by u i ≡ Ok the_last_day
last_denoted u i h = rw h refl

-- any other item
pub steps_denoted : (u : TimeUnit) (i : Item) → names_last_day u i ≡ false → denoted_by u i ≡ of_steps (steps_of u i)
steps_denoted u i h = rw h refl

-- The last day is no number.
pub last_unnumbered : (u : TimeUnit) (xs ys : List ℕ) → IsSet u xs → ys ≡ xs → ys ≡ set_of u (λ x. contains xs x || in_denoted the_last_day x)
last_unnumbered u xs ys h e =
    e ∙ (h ∙ set_same u (contains xs) (λ x. contains xs x || false) (λ x _ _. sym (or-false (contains xs x))))

-- a unit whose name for the last day is met has such a name
name_is_there : (last : Option (List ℕ)) (given : List ℕ) → is_name last given ≡ true → is_some last ≡ true
name_is_there None given h = h
name_is_there (Some last) given h = refl

pub last_is_there : (u : TimeUnit) (i : Item) → names_last_day u i ≡ true → is_some u.last_day ≡ true
last_is_there u (name given) h = name_is_there u.last_day given h
last_is_there u (plain b) h = absurd (false≢true h)
last_is_there u (stepped b n) h = absurd (false≢true h)

pub or_marked : (b m : Bool) → m ≡ true → m ≡ (b || true)
or_marked true m h = h
or_marked false m h = h

-- A result that tells what the code found tells what the item is refused for.
pub told_refused : {T : Type 0} (u : TimeUnit) (i : Item) (r : Result T Refusal) → IsUnit u → IfErr r (λ q. denoted_by u i ≡ Err (refusal_view q))
    → IfErr r (λ q. IsRefusedFor u i (refusal_view q))
told_refused u i (Ok x) h k = tt
told_refused u i (Err q) h k = refused u i (refusal_view q) h k
