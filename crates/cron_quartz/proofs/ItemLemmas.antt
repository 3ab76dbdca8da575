-- Items, by their pieces.
use Rattle.std.proofs.Common.{◌≡◌, ◌++◌, ◌||◌, ℕ, true, false, List, [], ◌∷◌, refl, sym, ap, ◌∙◌}
use Rattle.std.specs.Prelude.{Ok, Err}
use Rattle.cron_crontab.specs.Items.{pieces}
use Rattle.cron_crontab.proofs.ItemLemmas.{has_piece}
use Rattle.cron_units.specs.Steps.{Progression}
use Rattle.cron_units.specs.Units.{TimeUnit, contains, set_of}
use Rattle.cron_quartz.specs.Refusals.{ignored, named_step}
use Rattle.cron_quartz.specs.Items.{Base, End, between, end_of, is_named, item_of, items_of, lies_in, range_of, set_read, step_of, stepped_base}
use Rattle.cron_quartz.specs.Inner.Reading.{AreReadBefore}
use Rattle.cron_quartz.proofs.SetLemmas.{more_read}

-- a third number isn't read
pub third_number : (u : TimeUnit) (text first rest last more : List ℕ) (a b : End) (r : Base) → pieces 45 text ≡ first ∷ pieces 45 rest
    → pieces 45 rest ≡ last ∷ pieces 45 more → end_of u first ≡ Ok a → end_of u last ≡ Ok b → range_of u a b ≡ Ok r → between u (pieces 45 text) ≡ Err (ignored last)
third_number u text first rest last more a b r cut behind is end ranged = let other = has_piece 45 more in rw (cut, behind, other.is, is, end, ranged) refl

-- a step behind a name isn't read
pub with_named_step : (u : TimeUnit) (text front rest : List ℕ) (b : Base) → pieces 47 text ≡ front ∷ pieces 47 rest → stepped_base u front ≡ Ok b → is_named b ≡ true
    → item_of u text ≡ Err named_step
with_named_step u text front rest b cut is named = let step = has_piece 47 rest in rw (cut, step.is, is, named) refl

-- a second step isn't read
pub with_two_steps : (u : TimeUnit) (text front rest step more : List ℕ) (b : Base) (s : ℕ) → pieces 47 text ≡ front ∷ pieces 47 rest → pieces 47 rest ≡ step ∷ pieces 47 more
    → stepped_base u front ≡ Ok b → is_named b ≡ false → step_of u step ≡ Ok s → item_of u text ≡ Err (ignored step)
with_two_steps u text front rest step more b s cut behind is named steps = let other = has_piece 47 more in rw (cut, behind, other.is, is, named, steps) refl

-- ---- a field, item by item

-- one more item
pub item_read : (u : TimeUnit) (word rest text others old numbers : List ℕ) (item : Progression) → AreReadBefore u word rest old → pieces 44 rest ≡ text ∷ pieces 44 others
    → item_of u text ≡ Ok item → numbers ≡ set_of u (λ x. contains old x || lies_in u item x) → AreReadBefore u word others numbers
item_read u word rest text others old numbers item read cut is added = record {
  done = read.done ++ item ∷ [];
  before = read.before ∙ rw (cut, is) refl;
  is = added ∙ more_read u read.done item old read.is;
}

-- the last item
pub last_read : (u : TimeUnit) (word rest text old numbers : List ℕ) (item : Progression) → AreReadBefore u word rest old → pieces 44 rest ≡ text ∷ []
    → item_of u text ≡ Ok item → numbers ≡ set_of u (λ x. contains old x || lies_in u item x)
    → set_read u word ≡ Ok numbers
last_read u word rest text old numbers item read cut is added =
    let items : items_of u word ≡ Ok (read.done ++ item ∷ []) = read.before ∙ rw (cut, is) refl in
    rw items (ap Ok (sym (added ∙ more_read u read.done item old read.is)))
