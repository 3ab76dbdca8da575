-- Items, by their steps.
use Rattle.std.proofs.Common.{◌≡◌, ℕ, ◌+◌, ◌-◌, ◌<◌, ◌≤◌, ◌&&◌, ◌==◌, Bool, true, false, List, ◌∷◌, refl, ap, arith}
use Rattle.std.specs.Prelude.{◌%◌, nat_le}
use Rattle.std.proofs.Math.Nat.{mod-eq_of_lt}
use Rattle.std.proofs.lemmas.Bool.{leb-true}
use Rattle.cron_units.specs.Steps.{in_steps}
use Rattle.std.specs.Prelude.{Ok, Err}
use Rattle.cron_crontab.specs.Items.{pieces}
use Rattle.cron_crontab.proofs.ItemLemmas.{has_piece}
use Rattle.cron_kubernetes.specs.Refusals.{second_dash, second_step}
use Rattle.cron_kubernetes.specs.Items.{Base, base_of, each, is_star, item_of, number_of}
use Rattle.cron_crontab.specs.declared.field.Field.{Field}

-- steps past 64 numbers go as far
pub past_all : (n a b : ℕ) → n < 64 → 64 ≤ a → 64 ≤ b → (n % a == 0) ≡ (n % b == 0)
past_all n a b low first second =
    let x : n % a ≡ n = mod-eq_of_lt (omega arith) in
    let y : n % b ≡ n = mod-eq_of_lt (omega arith) in
    rw (x, y) refl

-- steps that go as far within 64 numbers have the same numbers
pub same_steps : (first last step every x : ℕ) → last < first + 64 → ((n : ℕ) → n < 64 → (n % step == 0) ≡ (n % every == 0))
    → in_steps (each first last step) x ≡ in_steps (each first last every) x
same_steps first last step every x room same = by_test (nat_le first x) (nat_le x last) refl refl
  where
    by_test : (a b : Bool) → nat_le first x ≡ a → nat_le x last ≡ b → in_steps (each first last step) x ≡ in_steps (each first last every) x
    by_test true true e f =
        let low = leb-true first x e in
        let high = leb-true x last f in
        rw (e, f) (same (x - first) (omega arith))
    by_test true false e f = rw (e, f) refl
    by_test false b e f = rw e refl

-- a range has no third number
pub third_number : (f : Field) (text first rest last more : List ℕ) (n : ℕ) → pieces 45 text ≡ first ∷ pieces 45 rest → pieces 45 rest ≡ last ∷ pieces 45 more
    → is_star first ≡ false → number_of f first ≡ Ok n → base_of f text ≡ Err second_dash
third_number f text first rest last more n cut behind plain is = let other = has_piece 45 more in rw (cut, behind, other.is, plain, is) refl

-- an item has no second step
pub with_two_steps : (f : Field) (text base rest step more : List ℕ) (b : Base) → pieces 47 text ≡ base ∷ pieces 47 rest → pieces 47 rest ≡ step ∷ pieces 47 more
    → base_of f base ≡ Ok b → item_of f text ≡ Err second_step
with_two_steps f text base rest step more b cut behind is = let other = has_piece 47 more in rw (cut, behind, other.is, is) refl
